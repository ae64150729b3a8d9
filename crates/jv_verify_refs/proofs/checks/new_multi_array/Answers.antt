use Rattle.std.proofs.Common.{ℕ, [], ◌∷◌, replicate, subst}
use Rattle.jv_types.specs.declared.desc.RefType.{RefType}
use Rattle.jv_types.specs.declared.frames.VType.{Integer}
use Rattle.jv_frames.specs.Types.{ref_vtype}
use Rattle.jv_verify_refs.proofs.Named.{one_multi, one_count}
use Rattle.jv_verify_refs.specs.Steps.Parts.{StepGoes}
use Rattle.jv_verify_refs.proofs.checks.new_multi_array.Goals as goal

pub returns-clause-rule : goal.returns-clause-rule
returns-clause-rule c = λ is after h.
    let s = c.args.step.now in
    let none = rw (c.as_slice.ensures.value, c.in_ok-wanted.ensures, c.in_ok-ref_vtype.ensures) at (c.goes.ensures.rule is) in
    let types = one_multi s.insn.now.arg h.0 c.in-Some.of.now h.1 c.in-Some.dims h.2 c.in-Some.ensures.found in
    let counts = one_count s.insn.now.arg h.0 c.in-Some.of.now h.1 c.in-Some.dims h.2 c.in-Some.ensures.found in
    none after (subst (λ (n : ℕ). StepGoes s (replicate n Integer) (ref_vtype c.in-Some.of.now ∷ []) after) counts
    (subst (λ (t : RefType). StepGoes s (replicate h.1 Integer) (ref_vtype t ∷ []) after) types h.3))
