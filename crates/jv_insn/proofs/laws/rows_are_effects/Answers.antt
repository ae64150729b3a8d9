-- Each row of the table was tried.
use Rattle.jv_insn.proofs.Tables.{row_cells_taken, row_cells_given, operands_rows, moves_rows}
use Rattle.jv_insn.proofs.laws.rows_are_effects.Goals as goal

pub returns : goal.returns
returns c = record {
  takes = λ insn row e h d. row_cells_taken insn.op insn.arg row e h d;
  gives = λ insn row e h d. row_cells_given insn.op insn.arg row e h d;
  operands = operands_rows;
  moves = moves_rows;
}
