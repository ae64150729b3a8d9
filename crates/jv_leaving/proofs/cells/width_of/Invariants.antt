-- The words of the cells so far are counted, two at most for each.
use Rattle.std.proofs.Common.{◌≡◌, ◌≤◌, ◌*◌, take}
use Rattle.jv_insn.specs.Effects.{width_of}
use Rattle.jv_leaving.proofs.cells.width_of.Given as goal

abbrev pub invariant-loop-cell : goal.invariant-loop-cell
invariant-loop-cell l = (l.width ≡ width_of (take l.cell-index l.cells)) × (l.width ≤ 2 * l.cell-index)
