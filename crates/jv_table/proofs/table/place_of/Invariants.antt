use Rattle.std.proofs.Common.{◌-◌}
use Rattle.jv_table.proofs.Order.{Halves}
use Rattle.jv_table.proofs.table.place_of.Given as goal

abbrev pub invariant-loop-low : goal.invariant-loop-low
invariant-loop-low g l = Halves g.met.K.Ord.total l.rows l.key l.low l.high

abbrev pub decreases-loop-low : goal.decreases-loop-low
decreases-loop-low g l = l.high - l.low
