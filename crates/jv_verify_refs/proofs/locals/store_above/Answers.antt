use Rattle.jv_verify_refs.proofs.Stores.{stores, no_store, no_room}
use Rattle.jv_verify_refs.proofs.locals.store_above.Goals as goal

pub returns-in-Err-clause-rule : goal.returns-in-Err-clause-rule
returns-in-Err-clause-rule c = λ is.
    no_store c.args.step.now c.args.below.now c.requires
    (rw (c.local_of-local.ensures, c.split_at.ensures.back, c.as_slice.ensures, c.as_slice-2.ensures) at (c.in-Err.ensures.rule (let e = is in cc)))

pub returns-in-Err-stack_with-clause-rule : goal.returns-in-Err-stack_with-clause-rule
returns-in-Err-stack_with-clause-rule c = λ is.
    no_room c.args.step.now c.args.below.now c.requires (c.in-Err-stack_with.ensures.rule (let e = is in cc))

pub returns-in-Ok-stack_with-clause-typed : goal.returns-in-Ok-stack_with-clause-typed
returns-in-Ok-stack_with-clause-typed c =
    stores c.args.step.now c.args.below.now c.in-Ok-stack_with.stack c.in-Ok.locals c.requires
    (rw (c.local_of-local.ensures, c.split_at.ensures.back, c.as_slice.ensures, c.as_slice-2.ensures) at c.in-Ok.ensures.ok)
    c.in-Ok-stack_with.ensures.ok c.in-Ok-stack_with.ensures.room
