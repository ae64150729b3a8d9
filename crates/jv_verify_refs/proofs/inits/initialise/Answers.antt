use Rattle.std.proofs.Common.{arith}
use Rattle.jv_verify_refs.proofs.Initialising.{are_initialised}
use Rattle.jv_verify_refs.proofs.inits.initialise.Goals as goal

pub returns-clause-typed : goal.returns-clause-typed
returns-clause-typed c =
    are_initialised c.args.step.now c.args.before.now c.args.made.now c.args.below.now c.in_ok-locals.locals c.in_ok-stack.stack c.flag_after-flag.result
    (rw c.as_slice.ensures at c.in_ok-locals.ensures) c.in_ok-stack.ensures (omega arith) c.flag_after-flag.ensures
