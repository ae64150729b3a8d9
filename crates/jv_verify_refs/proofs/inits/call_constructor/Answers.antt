use Rattle.jv_types.specs.declared.frames.VType.{VType}
use Rattle.jv_resolve.proofs.Tests.{none_at, some_at}
use Rattle.jv_verify_refs.specs.Steps.Parts.{Initialises}
use Rattle.jv_verify_refs.proofs.Initialising.{no_receiver, no_initialised}
use Rattle.jv_verify_refs.proofs.inits.call_constructor.Goals as goal

pub returns-in_default-clause-rule : goal.returns-in_default-clause-rule
returns-in_default-clause-rule c = λ is.
    no_receiver c.args.step.now c.args.method.now (rw (c.as_slice.ensures, c.in_ok-count.ensures) at c.in_default.ensures.none)

pub construct-requires-clause-made : goal.construct-requires-clause-made
construct-requires-clause-made c =
    some_at c.in_ok-made.field-0 c.in-Some-2.made (λ (t : VType). Initialises c.args.step.now c.args.method.now.class c.in-Some.before.now t) c.in-Some-2.is c.in_ok-made.ensures.found

pub construct-requires-clause-stands : goal.construct-requires-clause-stands
construct-requires-clause-stands c = rw (c.as_slice.ensures, c.in_ok-count.ensures) at c.in-Some.ensures.found

pub returns-in-None-clause-rule : goal.returns-in-None-clause-rule
returns-in-None-clause-rule c = λ is.
    no_initialised c.args.step.now c.args.method.now c.in-Some.before.now (rw (c.as_slice.ensures, c.in_ok-count.ensures) at c.in-Some.ensures.found)
    (none_at c.in_ok-made.field-0 ((t : VType) → Initialises c.args.step.now c.args.method.now.class c.in-Some.before.now t → ⊥) c.in-None.is c.in_ok-made.ensures.none)
