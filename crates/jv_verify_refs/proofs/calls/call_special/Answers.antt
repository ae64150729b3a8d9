use Rattle.std.proofs.lemmas.Result.{IfOk-weaker}
use Rattle.jv_frames.specs.Types.{ref_vtype}
use Rattle.jv_resolve.proofs.Tests.{denied}
use Rattle.jv_verify_refs.specs.Steps.Parts.{CallsOn, CallsSpecial}
use Rattle.jv_verify_refs.proofs.Calling.{special_class, special_pops, specials}
use Rattle.jv_verify_refs.proofs.calls.call_special.Goals as goal

pub returns-then-not-assignable-clause-rule : goal.returns-then-not-assignable-clause-rule
returns-then-not-assignable-clause-rule c = λ is after h.
    denied c.assignable.result c.if-not-assignable.true (rw c.in_ok-class.ensures at c.assignable.ensures.1)
    (special_class c.args.step.now c.args.method.now c.in_ok-current.current after c.in_ok-current.ensures h)

pub returns-clause-rule : goal.returns-clause-rule
returns-clause-rule c = λ is after h.
    let none = rw (c.as_slice.ensures.value, c.in_ok-wanted.ensures, c.as_slice-2.ensures) at (c.in-Err.ensures.rule (let e = is in cc)) in
    none (special_pops c.args.step.now c.args.method.now c.in_ok-current.current after c.in_ok-current.ensures h)

pub returns-in-Ok-clause-typed : goal.returns-in-Ok-clause-typed
returns-in-Ok-clause-typed c =
    let s = c.args.step.now in
    let method = c.args.method.now in
    IfOk-weaker c.call_on_class.result (CallsOn s (ref_vtype method.class) method) (CallsSpecial s method)
    (λ after. specials s method c.in_ok-current.current c.in-Ok._below.now after (c.is_plain.ensures.0 c.if-not-is_plain.false) c.in_ok-current.ensures
    (rw c.in_ok-class.ensures at (c.assignable.ensures.0 c.if-not-assignable.false))
    (rw (c.as_slice.ensures.value, c.in_ok-wanted.ensures, c.as_slice-2.ensures) at c.in-Ok.ensures.typed)) c.call_on_class.ensures.typed

pub returns-in-Ok-clause-rule : goal.returns-in-Ok-clause-rule
returns-in-Ok-clause-rule c = λ is after h. c.call_on_class.ensures.rule is after h.goes
