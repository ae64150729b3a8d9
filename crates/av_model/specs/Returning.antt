-- Returns from a method of the application (JVMS 2.6.4, 6.5).
use Rattle.std.specs.Prelude.{◌≡◌, ℕ, List, [], ◌∷◌, ◌++◌}
use Rattle.jv_types.specs.Bodies.{IsNextStart}
use Rattle.jv_types.specs.declared.frames.FramedBody.{FramedBody}
use Rattle.jv_types.specs.declared.ids.MethodId.{MethodId}
use Rattle.jv_types.specs.declared.instruction.Arg.TheVariants as args
use Rattle.jv_types.specs.declared.instruction.Insn.{Insn}
use Rattle.jv_types.specs.declared.references.MethodRef.{MethodRef}
use Rattle.jv_types.specs.declared.shapes.Shape.{Shape}
use Rattle.av_conditions.specs.Initialisers.{IsInitialiser}
use Rattle.av_states.specs.declared.held.Held.{Held}
use Rattle.av_states.specs.declared.state.Activation.{Activation}
use Rattle.av_states.specs.declared.state.Activation.TheVariants.{Library}
use Rattle.av_states.specs.declared.state.State.{State}
use Rattle.av_model.specs.Holding.{make_all_known}
use Rattle.av_model.specs.Spots.{Spot, IsAt, IsInsnAt, goes_on}

-- a frame that waits at a call of this reference goes on behind it, with this result in the place of the words that the
-- call took
pub record Resumes (methods : List FramedBody) (caller : Activation) (r : MethodRef) (result : List Held) (after : Activation) : Type 0 where
  pub spot : Spot
  pub is_at : IsAt methods caller spot
  pub insn : Insn
  pub stands : IsInsnAt spot insn
  pub calls : insn.arg ≡ args.Method r
  pub to : ℕ
  pub next : IsNextStart spot.pc spot.framed.body.insns to
  pub after_is : after ≡ goes_on spot insn result to

-- a frame of a method of the application
abbrev pub IsApplicationFrame : Activation → Type 0
IsApplicationFrame frame = frame ≡ Library → ⊥

-- the method of the last frame is an initialiser that an instruction of the application entered: the frame below is the
-- application's too
abbrev pub EnteredByInsn : List Shape → MethodId → List Activation → Type 0
EnteredByInsn w m below =
    IsInitialiser w m × ((lower : List Activation) × (caller : Activation) × (below ≡ lower ++ caller ∷ []) × IsApplicationFrame caller)

-- As a method returns this result, the frames below it become these, and the state is changed so. What the library is
-- given becomes known: PassesKnown. An instruction that entered an initialiser is then done from its beginning.
pub data Returns (w : List Shape) (methods : List FramedBody) (m : MethodId) (result : List Held) (old : State) (below : List Activation) : List Activation → State → Type 0 where
  to_library : (lower : List Activation) → below ≡ lower ++ Library ∷ [] → Returns w methods m result old below below (make_all_known old result)
  to_initialised : EnteredByInsn w m below → Returns w methods m result old below below old
  to_caller : (lower : List Activation) (caller after : Activation) (r : MethodRef) → (IsInitialiser w m → ⊥) → below ≡ lower ++ caller ∷ []
      → Resumes methods caller r result after
      → Returns w methods m result old below (lower ++ after ∷ []) old
