use Rattle.std.proofs.Common.{map, ap}
use Rattle.jv_table.specs.CodeRows.{op_row_form, opcode_rows}
use Rattle.jv_table.proofs.code_tables.opcodes.Goals as goal

pub returns : goal.returns
unfolding opcode_rows
returns c = ap (map op_row_form) c.new.ensures
