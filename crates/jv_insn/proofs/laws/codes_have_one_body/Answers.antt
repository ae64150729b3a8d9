-- Each row is one instruction, and each entry one handler.
use Rattle.jv_insn.proofs.OneBody.{one_body}
use Rattle.jv_insn.proofs.laws.codes_have_one_body.Goals as goal

pub returns : goal.returns
returns c = one_body
