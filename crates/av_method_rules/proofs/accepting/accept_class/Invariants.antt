-- The methods of the classes before, and those of this class so far.
use Rattle.av_method_rules.specs.Steps.Until.{place_at, AreAcceptedUntil}
use Rattle.av_method_rules.proofs.accepting.accept_class.Given as goal

abbrev pub invariant-loop-index : goal.invariant-loop-index
invariant-loop-index l = AreAcceptedUntil l.world l.classes (place_at l.number l.index) l.methods.items
