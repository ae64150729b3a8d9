use Rattle.std.proofs.Common.{[], ◌∷◌, subst}
use Rattle.jv_types.specs.declared.desc.PrimType.{PrimType}
use Rattle.jv_types.specs.declared.frames.VType.{Integer, PrimArray}
use Rattle.jv_verify_refs.proofs.Named.{one_prim}
use Rattle.jv_verify_refs.specs.Steps.Parts.{StepGoes}
use Rattle.jv_verify_refs.proofs.checks.new_array.Goals as goal

pub returns-clause-rule : goal.returns-clause-rule
returns-clause-rule c = λ is after h.
    let s = c.args.step.now in
    c.goes.ensures.rule is after (subst (λ (t : PrimType). StepGoes s (Integer ∷ []) (PrimArray t ∷ []) after) (one_prim s.insn.now.arg h.0 c.in-Some.prim h.1 c.in-Some.ensures.found) h.2)
