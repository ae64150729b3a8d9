-- Its instructions and handlers are right, and it doesn't break off.
use Rattle.jv_insn.proofs.Failing.{decoded_fails_nowhere}
use Rattle.jv_insn.proofs.laws.decoded_codes_fail_nowhere.Goals as goal

pub returns : goal.returns
returns c = decoded_fails_nowhere
