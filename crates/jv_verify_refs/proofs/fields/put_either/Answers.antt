use Rattle.std.proofs.Common.{inl, inr, ap, Err}
use Rattle.jv_verify_refs.proofs.fields.put_either.Goals as goal

pub returns-in-Err-Rule-clause-rule : goal.returns-in-Err-Rule-clause-rule
returns-in-Err-Rule-clause-rule c = λ is after h. elim h [
  | inl a ↦ c.in-Err-Rule.ensures.rule (ap Err c.in-Err-Rule.field-0-is) after a
  | inr b ↦ c.put_own.ensures.rule is after b
]
