use Rattle.av_named.specs.Appending.{Appends}
use Rattle.av_tables.specs.Steps.{known}
use Rattle.av_round.specs.Steps.{IsShapeBelow}
use Rattle.av_round.proofs.whole.push_all_read.Given as goal

abbrev pub invariant-loop-class : goal.invariant-loop-class
invariant-loop-class l = Appends (IsShapeBelow l.class (known l.classes)) l.initial.out.items l.out.items
