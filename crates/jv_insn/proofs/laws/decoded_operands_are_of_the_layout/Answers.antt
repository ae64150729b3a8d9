-- Each instruction is spelled by the code.
use Rattle.jv_insn.proofs.OfLayout.{decoded_own}
use Rattle.jv_insn.proofs.laws.decoded_operands_are_of_the_layout.Goals as goal

pub returns : goal.returns
returns c = decoded_own
