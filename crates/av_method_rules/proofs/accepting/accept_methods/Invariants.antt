-- The methods of the classes so far.
use Rattle.av_method_rules.specs.Steps.Until.{place_at, AreAcceptedUntil}
use Rattle.av_method_rules.proofs.accepting.accept_methods.Given as goal

abbrev pub invariant-loop-number : goal.invariant-loop-number
invariant-loop-number l = AreAcceptedUntil l.world l.classes (place_at l.number 0) l.methods.items
