-- Its instructions fill its length, each of them stands there, and so does each handler.
use Rattle.jv_insn.proofs.SpelledBodies.{may_of_spelled}
use Rattle.jv_insn.proofs.laws.spelled_bodies_may_be_encoded.Goals as goal

pub returns : goal.returns
returns c = may_of_spelled
