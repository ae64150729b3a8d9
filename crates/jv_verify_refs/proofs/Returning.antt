-- What a return has no typing for.
use Rattle.std.proofs.Common.{◌≡◌, [], ◌∷◌, Some, sym, ap, ◌∙◌, subst}
use Rattle.jv_types.specs.declared.desc.Desc.{Desc}
use Rattle.jv_types.specs.declared.shapes.MethodShape.{MethodShape}
use Rattle.jv_types.specs.declared.frames.Frame.{Frame}
use Rattle.jv_resolve.specs.Members.{IsMethod}
use Rattle.jv_resolve.proofs.MembersLemmas.{one_method}
use Rattle.jv_frames.specs.Types.{desc_vtype}
use Rattle.jv_typing.specs.declared.rules.RefRule.TheVariants as rules
use Rattle.jv_verify_refs.specs.declared.step.Step.{Step}
use Rattle.jv_verify_refs.specs.Steps.Parts.{StepGoes, HasNoTyping}

pub no_return : (step : Step) (shape : MethodShape) (type : Desc) → IsMethod step.world.now step.method shape → shape.desc.result ≡ Some type
    → ((after : Frame) → StepGoes step (desc_vtype type ∷ []) [] after → ⊥) → HasNoTyping step rules.ReturnValue
no_return step shape type at is none after h =
    let shapes : h.shape ≡ shape = one_method step.world.now step.method h.shape shape h.method at in
    let results : Some h.type ≡ Some type = sym h.result ∙ ap (λ (s : MethodShape). s.desc.result) shapes ∙ is in
    let types : h.type ≡ type = cc in
    none after (subst (λ (t : Desc). StepGoes step (desc_vtype t ∷ []) [] after) types h.goes)
