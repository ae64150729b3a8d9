use Rattle.std.proofs.Common.{subst}
use Rattle.jv_types.specs.declared.references.FieldRef.{FieldRef}
use Rattle.jv_verify_refs.specs.Steps.Parts.{GetsField}
use Rattle.jv_verify_refs.proofs.Named.{one_field}
use Rattle.jv_verify_refs.proofs.fields.get_field.Goals as goal

pub returns-in-Some-clause-rule : goal.returns-in-Some-clause-rule
returns-in-Some-clause-rule c = λ is after h.
    let s = c.args.step.now in
    c.get_from.ensures.rule is after (subst (λ (r : FieldRef). GetsField s r after) (one_field s.insn.now.arg h.0 c.in-Some.field.now h.1 c.in-Some.ensures.found) h.2)
