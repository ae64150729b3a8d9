use Rattle.std.proofs.Common.{false}
use Rattle.jv_insn.proofs.HeldCells.{held_kinds}
use Rattle.jv_insn.proofs.laws.held_cells_have_kinds.Goals as goal

pub returns : goal.returns
returns c = λ cells below top h. held_kinds cells false below top h
