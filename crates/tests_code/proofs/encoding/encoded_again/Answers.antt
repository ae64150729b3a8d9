-- A body that was decoded is spelled.
use Rattle.jv_insn.proofs.SpelledBodies.{spelled_of}
use Rattle.tests_code.proofs.encoding.encoded_again.Goals as goal

pub encoded-requires : goal.encoded-requires
encoded-requires c = spelled_of c.args.items.now 9 c.args.max_locals c.args.code.now c.as_slice.result.now c.in_ok-body.body c.in_ok-body.ensures.decoded
