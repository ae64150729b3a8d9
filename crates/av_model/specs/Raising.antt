-- Throwing and catching (JVMS 2.10, 4.7.3, 6.5 athrow).
use Rattle.std.specs.Prelude.{◌≡◌, ℕ, List, [], ◌∷◌, ◌++◌, Option, Some, None, length, slice_get}
use Rattle.jv_types.specs.declared.body.Handler.{Handler}
use Rattle.jv_types.specs.declared.label.Label.{Label}
use Rattle.jv_types.specs.declared.shapes.Shape.{Shape}
use Rattle.jv_world.specs.MemberPlaces.{IsFirstPlace, NoneIn}
use Rattle.jv_insn.specs.KindSafe.{Covers}
use Rattle.av_conditions.specs.Initialisers.{IsInitialiser}
use Rattle.av_states.specs.declared.held.Held.TheVariants.{Ref}
use Rattle.av_states.specs.declared.run_type.RunType.{RunType}
use Rattle.av_states.specs.declared.state.Activation.{Activation}
use Rattle.av_states.specs.declared.state.Activation.TheVariants.{App, Library}
use Rattle.av_states.specs.declared.state.State.{State}
use Rattle.av_model.specs.Holding.{make, make_known}
use Rattle.av_model.specs.LibraryTypes.{IsRaised, LabelOf}
use Rattle.av_model.specs.Returning.{EnteredByInsn, IsApplicationFrame}
use Rattle.av_model.specs.RunTypes.{IsOfNamed}
use Rattle.av_model.specs.Spots.{Spot}

-- ---- a new throwable

-- the state with a new object of the library's, which is known
abbrev pub add_known : State → RunType → Label → State
add_known state type label = make_known (make state (record { made = type; label = label; cells = [] } ∷ [])) (Ref (length state.heap))

-- any instruction may throw a new object of the library's of such a type
pub record MakesThrowable (w : List Shape) (type : RunType) (old new : State) : Type 0 where
  pub raised : IsRaised w type
  pub label : Label
  pub labelled : LabelOf w old.dims type label
  pub after : new ≡ add_known old type label

-- ---- catching

-- the handler catches objects of this class: all, or those of one
abbrev pub CatchesType : List Shape → RunType → Option (List ℕ) → Type 0
CatchesType w type None = Unit {0}
CatchesType w type (Some name) = IsOfNamed w type name

-- the handler catches an object of this type, which the instruction at this offset throws
abbrev pub Catches : List Shape → RunType → ℕ → Handler → Type 0
Catches w type pc handler = Covers handler pc × CatchesType w type handler.catch

-- no handler of the method catches it
abbrev pub IsUncaught : List Shape → Spot → RunType → Type 0
IsUncaught w spot type = NoneIn (Catches w type spot.pc) spot.framed.body.handlers

-- As the object of this number is thrown at the spot, over these frames, the frames become these, the object is thrown on
-- or not, and the state is changed so. The first handler in the table that catches it is entered, with the local
-- variables as they are. Where there is none the frame is left: what leaves the application becomes known to the library
-- (PassesKnown), and so does what leaves an initialiser.
pub data Unwinds (w : List Shape) (below : List Activation) (spot : Spot) (thrown : ℕ) (type : RunType) (old : State) : List Activation → Option ℕ → State → Type 0 where
  caught : (place : ℕ) (handler : Handler) → IsFirstPlace (Catches w type spot.pc) spot.framed.body.handlers place
      → slice_get spot.framed.body.handlers place ≡ Some handler
      → Unwinds w below spot thrown type old (below ++ App spot.framed.method handler.target spot.words.locals (Ref thrown ∷ []) ∷ []) None old
  to_library : (lower : List Activation) → IsUncaught w spot type → below ≡ lower ++ Library ∷ []
      → Unwinds w below spot thrown type old below None (make_known old (Ref thrown))
  to_initialised : IsUncaught w spot type → EnteredByInsn w spot.framed.method below
      → Unwinds w below spot thrown type old below (Some thrown) (make_known old (Ref thrown))
  to_caller : (lower : List Activation) (caller : Activation) → IsUncaught w spot type → below ≡ lower ++ caller ∷ [] → IsApplicationFrame caller
      → (IsInitialiser w spot.framed.method → ⊥)
      → Unwinds w below spot thrown type old below (Some thrown) old
