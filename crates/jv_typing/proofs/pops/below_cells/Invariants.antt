-- What stands below all cells is what stands below those that are left.
use Rattle.std.proofs.Common.{length}
use Rattle.jv_typing.proofs.Popping.{SameBelow}
use Rattle.jv_typing.proofs.pops.below_cells.Given as goal

abbrev pub invariant-loop-cell : goal.invariant-loop-cell
invariant-loop-cell l = SameBelow l.cells l.stack l.left l.below

abbrev pub decreases-loop-cell : goal.decreases-loop-cell
decreases-loop-cell l = length l.left
