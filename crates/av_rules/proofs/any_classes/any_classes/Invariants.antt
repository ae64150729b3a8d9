use Rattle.av_rules.specs.Steps.Tables.{AreOfEach, SaysAny}
use Rattle.av_rules.proofs.any_classes.any_classes.Given as goal

abbrev pub invariant-loop-number : goal.invariant-loop-number
invariant-loop-number l = AreOfEach (SaysAny l.world) l.number l.found.items
