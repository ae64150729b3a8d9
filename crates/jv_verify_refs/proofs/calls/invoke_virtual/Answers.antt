use Rattle.std.proofs.Common.{subst}
use Rattle.jv_types.specs.declared.references.MethodRef.{MethodRef}
use Rattle.std.proofs.lemmas.Result.{IfOk-weaker}
use Rattle.jv_typing.specs.declared.rules.RefRule.TheVariants as rules
use Rattle.jv_verify_refs.specs.Steps.Parts.{HasTyping, CallsVirtual}
use Rattle.jv_verify_refs.proofs.Named.{one_method}
use Rattle.jv_verify_refs.proofs.calls.invoke_virtual.Goals as goal

pub returns-in-Some-clause-rule : goal.returns-in-Some-clause-rule
returns-in-Some-clause-rule c = λ is after h.
    let s = c.args.step.now in
    c.call_virtual.ensures.rule is after (subst (λ (r : MethodRef). CallsVirtual s r after) (one_method s.insn.now.arg h.0 c.in-Some.method.now h.1 c.in-Some.ensures.found) h.2)

pub returns-in-Some-clause-typed : goal.returns-in-Some-clause-typed
returns-in-Some-clause-typed c =
    let s = c.args.step.now in
    let method = c.in-Some.method.now in
    IfOk-weaker c.call_virtual.result (CallsVirtual s method) (HasTyping s rules.InvokeVirtual) (λ after h. (method, c.in-Some.ensures.found, h)) c.call_virtual.ensures.typed
