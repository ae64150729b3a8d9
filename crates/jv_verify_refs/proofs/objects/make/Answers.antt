use Rattle.jv_resolve.proofs.Tests.{denied}
use Rattle.jv_verify_refs.proofs.Making.{makes_one, no_room}
use Rattle.jv_verify_refs.proofs.objects.make.Goals as goal

pub returns-in-Err-clause-rule : goal.returns-in-Err-clause-rule
returns-in-Err-clause-rule c = λ is.
    no_room c.args.step.now (rw c.as_slice-stack.ensures at (c.in-Err.ensures.rule (let e = is in cc)))

pub returns-in-Ok-clause-typed : goal.returns-in-Ok-clause-typed
returns-in-Ok-clause-typed c =
    makes_one c.args.step.now c.in_ok-locals.locals c.in-Ok.stack (c.names_class.ensures.0 c.if-not-names_class.false)
    (rw c.as_slice-stack.ensures at (denied c.has_word.result c.if-has_word.false c.has_word.ensures.1))
    (rw c.as_slice.ensures at c.in_ok-locals.ensures)
    (rw c.as_slice-stack.ensures at c.in-Ok.ensures.ok) c.in-Ok.ensures.room
