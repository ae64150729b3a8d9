-- Its operands are of the layout of its opcode.
use Rattle.jv_insn.proofs.KindSafe.{own_row}
use Rattle.jv_insn.proofs.laws.kind_safe_instructions_are_of_their_row.Goals as goal

pub returns : goal.returns
returns c = own_row
