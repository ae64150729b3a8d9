-- What invokespecial asks of the current class.
use Rattle.std.proofs.Common.{◌≡◌, List, ◌∷◌, Some, slice_get, sym, ap, ◌∙◌, subst}
use Rattle.jv_types.specs.declared.references.MethodRef.{MethodRef}
use Rattle.jv_types.specs.declared.shapes.Shape.{Shape}
use Rattle.jv_types.specs.declared.frames.VType.{VType, Class}
use Rattle.jv_types.specs.declared.frames.Frame.{Frame}
use Rattle.jv_insn.specs.Effects.{effect_of}
use Rattle.jv_frames.specs.Types.{ref_vtype}
use Rattle.jv_frames.specs.Assignable.{IsAssignable}
use Rattle.jv_resolve.proofs.Hierarchy.{one_shape}
use Rattle.jv_typing.specs.Transitions.{CanPop}
use Rattle.jv_typing.specs.References.{IsPlainName, param_types}
use Rattle.jv_verify_refs.specs.declared.step.Step.{Step}
use Rattle.jv_verify_refs.specs.Steps.Parts.{Pops, CallsOn, CallsSpecial}

-- the type of the current class
abbrev pub IsThisType : Step → VType → Type 0
IsThisType step current = (class : Shape) × (slice_get step.world.now step.from.number ≡ Some class) × (current ≡ Class class.name)

same_current : (step : Step) (method : MethodRef) (current : VType) (after : Frame) → IsThisType step current → (h : CallsSpecial step method after) → Class h.current.name ≡ current
same_current step method current after k h =
    ap (λ (s : Shape). Class s.name) (one_shape step.world.now step.from.number h.current k.0 h.this_class k.1) ∙ sym k.2

pub special_class : (step : Step) (method : MethodRef) (current : VType) (after : Frame) → IsThisType step current → CallsSpecial step method after
    → IsAssignable step.world.now current (ref_vtype method.class)
special_class step method current after k h =
    subst (λ (t : VType). IsAssignable step.world.now t (ref_vtype method.class)) (same_current step method current after k h) h.of_class

pub special_pops : (step : Step) (method : MethodRef) (current : VType) (after : Frame) → IsThisType step current → CallsSpecial step method after
    → CanPop step.world.now (effect_of step.insn.now).takes (current ∷ param_types method.desc) step.frame.now.stack
special_pops step method current after k h =
    subst (λ (t : VType). CanPop step.world.now (effect_of step.insn.now).takes (t ∷ param_types method.desc) step.frame.now.stack) (same_current step method current after k h) h.of_this

pub specials : (step : Step) (method : MethodRef) (current : VType) (below : List VType) (after : Frame) → IsPlainName method.name → IsThisType step current
    → IsAssignable step.world.now current (ref_vtype method.class) → Pops step.world.now (effect_of step.insn.now).takes (current ∷ param_types method.desc) step.frame.now.stack below
    → CallsOn step (ref_vtype method.class) method after → CallsSpecial step method after
specials step method current below after plain k of pops goes = record {
  plain = plain;
  current = k.0;
  this_class = k.1;
  of_class = subst (λ (t : VType). IsAssignable step.world.now t (ref_vtype method.class)) k.2 of;
  of_this = subst (λ (t : VType). CanPop step.world.now (effect_of step.insn.now).takes (t ∷ param_types method.desc) step.frame.now.stack) k.2 pops.0;
  goes = goes;
}
