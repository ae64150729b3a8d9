-- The types of the words so far are there.
use Rattle.std.proofs.Common.{take}
use Rattle.jv_typing.specs.Transitions.{AreReplaced}
use Rattle.jv_verify_refs.proofs.objects.replaced.Given as goal

abbrev pub invariant-loop-word : goal.invariant-loop-word
invariant-loop-word l = AreReplaced l.old l.new (take l.word-index l.words) l.made.items
