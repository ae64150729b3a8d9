use Rattle.std.proofs.Common.{ap, ◌∙◌}
use Rattle.std.specs.Option.{option_map}
use Rattle.std.specs.Ordering.{nat_cmp}
use Rattle.jv_table.specs.CodeRows.{op_form}
use Rattle.jv_table.specs.Rows.{row_of}
use Rattle.jv_table.proofs.Forms.{row_of-forms}
use Rattle.jv_table.proofs.code_tables.opcode.Goals as goal

pub returns : goal.returns
returns c =
    ap (option_map op_form) c.find.ensures.value ∙ row_of-forms op_form c.args.op c.opcodes.result ∙ ap (row_of nat_cmp c.args.op) c.opcodes.ensures
