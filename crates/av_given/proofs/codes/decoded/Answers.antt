use Rattle.av_given.proofs.Names.{undecoded}
use Rattle.av_given.proofs.codes.decoded.Goals as goal

pub returns-in-Err-At : goal.returns-in-Err-At
returns-in-Err-At c =
    undecoded c.args.class.now c.args.code.now c.as_slice-bytes.result.now c.as_slice-handlers.result.now c.in-Err-At._pc c.as_slice-bytes.ensures c.as_slice-handlers.ensures (rw c.in-Err-At.field-0-is at c.in-Err-At.ensures.bad)
