use Rattle.std.proofs.Common.{arith}
use Rattle.jv_table.specs.CodeRows.{opcode_rows}
use Rattle.jv_table.proofs.Numbered.{some_within, none_above, own_number, opcodes_numbered, opcodes_counted}
use Rattle.jv_table.proofs.code_tables.opcodes_are_numbered.Goals as goal

pub returns : goal.returns
returns c = record {
  some = λ op lt. some_within 0 opcode_rows opcodes_numbered op (omega arith) (omega (arith, opcodes_counted));
  none = λ op le. none_above 0 opcode_rows opcodes_numbered op (omega (arith, opcodes_counted));
  own = own_number 0 opcode_rows opcodes_numbered;
}
