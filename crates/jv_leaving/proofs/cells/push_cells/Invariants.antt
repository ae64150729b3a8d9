-- The cells of the types so far are there.
use Rattle.std.proofs.Common.{◌≡◌, ◌++◌, map, take}
use Rattle.jv_insn.specs.Effects.{desc_cell}
use Rattle.jv_leaving.proofs.cells.push_cells.Given as goal

abbrev pub invariant-loop-desc : goal.invariant-loop-desc
invariant-loop-desc l = l.cells.items ≡ l.initial.cells.items ++ map desc_cell (take l.desc-index l.descs)
