-- Each cell so far is held.
use Rattle.std.proofs.Common.{take, All}
use Rattle.jv_typing.specs.Parts.{HoldsFrom}
use Rattle.jv_typing.proofs.reads.hold_from.Given as goal

abbrev pub invariant-loop-cell : goal.invariant-loop-cell
invariant-loop-cell l = All (HoldsFrom l.locals l.local) (take l.cell-index l.cells)
