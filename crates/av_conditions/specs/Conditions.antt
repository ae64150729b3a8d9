-- What the crates that run and analyse methods ask of a world and of methods, beside that their frames fit.
use Rattle.std.specs.Prelude.{◌≡◌, ℕ, true, List, [], ◌∷◌, None, Some, codes, slice_get, Contains}
use Rattle.jv_types.specs.Bodies.{at_offset}
use Rattle.jv_types.specs.declared.body.Body.{Body}
use Rattle.jv_types.specs.declared.desc.Desc.TheVariants.{Ref}
use Rattle.jv_types.specs.declared.desc.MethodDesc.{MethodDesc}
use Rattle.jv_types.specs.declared.desc.RefType.{Class, Array}
use Rattle.jv_types.specs.declared.frames.FramedBody.{FramedBody}
use Rattle.jv_types.specs.declared.ids.MethodId.{MethodId}
use Rattle.jv_types.specs.declared.instruction.Arg.TheVariants.{Method}
use Rattle.jv_types.specs.declared.instruction.Insn.{Insn}
use Rattle.jv_types.specs.declared.references.MethodRef.{MethodRef}
use Rattle.jv_types.specs.declared.shapes.MethodShape.{MethodShape}
use Rattle.jv_types.specs.declared.shapes.Shape.{Shape}
use Rattle.jv_resolve.specs.Members.{HasMethod, IsAbstract, IsMethod, IsStatic}
use Rattle.av_conditions.specs.CoreClasses.{CoreClasses, string_name}
use Rattle.av_conditions.specs.Initialisers.{IsApplicationClass, clinit_name}
use Rattle.av_conditions.specs.RightReferences.{HasRightReferences}

-- no instruction of a code calls a method named `<clinit>`
abbrev pub CallsNoInitialiser : Body → Type 0
CallsNoInitialiser body =
    (pc : ℕ) (insn : Insn) (r : MethodRef) → at_offset pc body.insns ≡ Some insn → insn.arg ≡ Method r → ¬ (r.name ≡ clinit_name)

-- Different methods of the world, whose references resolve and are of the right kind, and which call no
-- initialiser; and the world has the six classes. That the frames of the methods fit the kinds of words is the
-- definition KindSafe of jv_insn, which is asked beside this.
pub record MeetConditions (w : List Shape) (methods : List FramedBody) : Type 0 where
  pub distinct : (i j : ℕ) (a b : FramedBody) → slice_get methods i ≡ Some a → slice_get methods j ≡ Some b → a.method ≡ b.method → i ≡ j
  pub here : (framed : FramedBody) → Contains methods framed → HasMethod w framed.method
  pub references : (framed : FramedBody) → Contains methods framed → HasRightReferences w framed.body
  pub no_initialiser : (framed : FramedBody) → Contains methods framed → CallsNoInitialiser framed.body
  pub core : CoreClasses w

-- each application method of the world that isn't abstract is among the methods
abbrev pub HaveAllApplicationMethods : List Shape → List FramedBody → Type 0
HaveAllApplicationMethods w methods =
    (m : MethodId) (shape : MethodShape) → IsMethod w m shape → IsApplicationClass w m.class.number → ¬ IsAbstract shape.flags
    → (framed : FramedBody) × Contains methods framed × (framed.method ≡ m)

-- the parameters of main: an array of strings, and no result
abbrev pub main_desc : MethodDesc
main_desc = record { params = Ref (Array (Class string_name)) ∷ []; result = None }

-- the method is a static one of those given, with the descriptor of main
pub record IsStart (w : List Shape) (methods : List FramedBody) (start : MethodId) : Type 0 where
  pub given : (framed : FramedBody) × Contains methods framed × (framed.method ≡ start)
  pub shape : MethodShape
  pub place : IsMethod w start shape
  pub static : IsStatic shape.flags
  pub takes_strings : shape.desc ≡ main_desc
