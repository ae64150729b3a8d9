-- The numbers of the body are those of the code.
use Rattle.jv_insn.proofs.SpelledBodies.{spelled_of}
use Rattle.jv_insn.proofs.laws.decoded_bodies_are_spelled.Goals as goal

pub returns : goal.returns
returns c = spelled_of
