use Rattle.std.proofs.Common.{[], ◌∷◌, subst}
use Rattle.jv_types.specs.declared.references.FieldRef.{FieldRef}
use Rattle.jv_frames.specs.Types.{desc_vtype}
use Rattle.jv_verify_refs.specs.Steps.Parts.{StepGoes}
use Rattle.jv_verify_refs.proofs.Named.{one_field}
use Rattle.jv_verify_refs.proofs.fields.get_static.Goals as goal

pub returns-clause-rule : goal.returns-clause-rule
returns-clause-rule c = λ is after h.
    let s = c.args.step.now in
    let none = rw c.in_ok-desc_vtype.ensures at (c.goes.ensures.rule is) in
    none after (subst (λ (f : FieldRef). StepGoes s [] (desc_vtype f.desc ∷ []) after) (one_field s.insn.now.arg h.0 c.in-Some.field.now h.1 c.in-Some.ensures.found) h.2)
