use Rattle.std.proofs.Common.{inl, inr}
use Rattle.std.proofs.lemmas.Result.{IfOk-weaker}
use Rattle.jv_resolve.proofs.Tests.{denied}
use Rattle.jv_verify_refs.specs.Steps.Parts.{CallsConstructor, CallsSpecial, CallsEither}
use Rattle.jv_verify_refs.proofs.calls.call_either.Goals as goal

pub returns-then-is_init-clause-typed : goal.returns-then-is_init-clause-typed
returns-then-is_init-clause-typed c =
    let s = c.args.step.now in
    let method = c.args.method.now in
    IfOk-weaker c.call_constructor.result (CallsConstructor s method) (CallsEither s method) (λ after h. inl (c.is_init.ensures.0 c.if-is_init.true, h)) c.call_constructor.ensures.typed

pub returns-then-is_init-clause-rule : goal.returns-then-is_init-clause-rule
returns-then-is_init-clause-rule c = λ is after h. elim h [
  | inl a ↦ c.call_constructor.ensures.rule is after a.1
  | inr b ↦ b.plain.no_constructor (c.is_init.ensures.0 c.if-is_init.true)
]

pub returns-clause-typed : goal.returns-clause-typed
returns-clause-typed c =
    let s = c.args.step.now in
    let method = c.args.method.now in
    IfOk-weaker c.call_special.result (CallsSpecial s method) (CallsEither s method) (λ after h. inr h) c.call_special.ensures.typed

pub returns-clause-rule : goal.returns-clause-rule
returns-clause-rule c = λ is after h. elim h [
  | inl a ↦ denied c.is_init.result c.if-is_init.false c.is_init.ensures.1 a.0
  | inr b ↦ c.call_special.ensures.rule is after b
]
