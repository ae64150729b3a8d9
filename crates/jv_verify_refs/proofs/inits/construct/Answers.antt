use Rattle.std.proofs.lemmas.Result.{IfOk-weaker}
use Rattle.jv_verify_refs.specs.Steps.Parts.{AreInitialised, CallsConstructor}
use Rattle.jv_verify_refs.proofs.Initialising.{constructs, no_room, no_popped}
use Rattle.jv_verify_refs.proofs.inits.construct.Goals as goal

pub returns-in-Ok-clause-typed : goal.returns-in-Ok-clause-typed
returns-in-Ok-clause-typed c =
    let s = c.args.step.now in
    let pops = rw (c.as_slice.ensures.value, c.in_ok-wanted.ensures, c.in_ok-receiver.ensures, c.as_slice-2.ensures) at c.in-Ok.ensures.typed in
    IfOk-weaker c.initialise.result (AreInitialised s c.args.before.now c.args.made.now c.in-Ok.below.now) (CallsConstructor s c.args.method.now)
    (λ after. constructs s c.args.method.now c.args.before.now c.args.made.now c.in-Ok.below.now after c.requires.result c.requires.made pops) c.initialise.ensures.typed

pub returns-in-Ok-clause-rule : goal.returns-in-Ok-clause-rule
returns-in-Ok-clause-rule c = λ is.
    let pops = rw (c.as_slice.ensures.value, c.in_ok-wanted.ensures, c.in_ok-receiver.ensures, c.as_slice-2.ensures) at c.in-Ok.ensures.typed in
    no_room c.args.step.now c.args.method.now c.args.before.now c.in-Ok.below.now pops (c.initialise.ensures.rule is)

pub returns-clause-rule : goal.returns-clause-rule
returns-clause-rule c = λ is.
    no_popped c.args.step.now c.args.method.now c.args.before.now c.requires.stands
    (rw (c.as_slice.ensures.value, c.in_ok-wanted.ensures, c.in_ok-receiver.ensures, c.as_slice-2.ensures) at (c.in-Err.ensures.rule (let e = is in cc)))
