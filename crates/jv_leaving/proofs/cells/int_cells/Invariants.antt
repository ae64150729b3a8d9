use Rattle.std.proofs.Common.{◌≡◌, replicate}
use Rattle.jv_table.specs.declared.code_tables.Cell.TheVariants.{Int}
use Rattle.jv_leaving.proofs.cells.int_cells.Given as goal

abbrev pub invariant-loop-place : goal.invariant-loop-place
invariant-loop-place l = l.cells.items ≡ replicate l._place Int
