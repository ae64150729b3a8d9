-- What is named keeps the form, since the pool does.
use Rattle.jv_insn.proofs.Keeping.{decoded_keeps}
use Rattle.jv_insn.proofs.laws.decoded_bodies_keep_the_form.Goals as goal

pub returns : goal.returns
returns c = decoded_keeps
