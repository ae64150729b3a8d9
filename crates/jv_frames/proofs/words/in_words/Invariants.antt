use Rattle.std.proofs.Common.{◌≡◌, take}
use Rattle.jv_frames.specs.Types.{in_words}
use Rattle.jv_frames.proofs.words.in_words.Given as goal

abbrev pub invariant-loop-of : goal.invariant-loop-of
invariant-loop-of l = l.words.items ≡ in_words (take l.of-index l.types)
