use Rattle.std.proofs.Common.{[], ◌∷◌, subst}
use Rattle.jv_types.specs.declared.desc.RefType.{RefType}
use Rattle.jv_frames.specs.Types.{ref_vtype}
use Rattle.jv_typing.specs.References.{object_type}
use Rattle.jv_verify_refs.proofs.Named.{one_type}
use Rattle.jv_verify_refs.specs.Steps.Parts.{StepGoes}
use Rattle.jv_verify_refs.proofs.checks.check_cast.Goals as goal

pub returns-clause-rule : goal.returns-clause-rule
returns-clause-rule c = λ is after h.
    let s = c.args.step.now in
    let none = rw (c.in_ok-object_type.ensures, c.in_ok-ref_vtype.ensures) at (c.goes.ensures.rule is) in
    none after (subst (λ (t : RefType). StepGoes s (object_type ∷ []) (ref_vtype t ∷ []) after) (one_type s.insn.now.arg h.0 c.in-Some.of.now h.1 c.in-Some.ensures.found) h.2)
