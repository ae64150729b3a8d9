-- Calls (JVMS 6.5, the four invocations): which method runs, and what is entered.
use Rattle.std.specs.Prelude.{◌≡◌, ℕ, List, [], ◌∷◌, Some, slice_get, Contains}
use Rattle.jv_table.specs.declared.ops.TheConstants.{INVOKEVIRTUAL, INVOKESPECIAL, INVOKESTATIC, INVOKEINTERFACE}
use Rattle.jv_types.specs.Bodies.{IsNextStart}
use Rattle.jv_types.specs.declared.frames.FramedBody.{FramedBody}
use Rattle.jv_types.specs.declared.ids.ClassId.{ClassId}
use Rattle.jv_types.specs.declared.ids.MethodId.{MethodId}
use Rattle.jv_types.specs.declared.instruction.Arg.TheVariants as args
use Rattle.jv_types.specs.declared.instruction.Insn.{Insn}
use Rattle.jv_types.specs.declared.references.MethodRef.{MethodRef}
use Rattle.jv_types.specs.declared.shapes.Shape.{Shape}
use Rattle.jv_world.specs.Worlds.{object_name, IsNamed}
use Rattle.jv_resolve.specs.Members.{init_name, DeclaresMethod}
use Rattle.jv_resolve.specs.Selecting.{SelectsSpecial}
use Rattle.av_conditions.specs.CoreClasses.{finalize_name, void_desc}
use Rattle.av_conditions.specs.Initialisers.{IsApplicationClass}
use Rattle.av_conditions.specs.Members.{RefersToMethod, ResolvesCall}
use Rattle.av_states.specs.declared.held.Held.{Held}
use Rattle.av_states.specs.declared.held.Held.TheVariants.{Ref}
use Rattle.av_states.specs.declared.run_type.RunType.{RunType, Class, Lib, Array}
use Rattle.av_states.specs.declared.state.Activation.{Activation}
use Rattle.av_states.specs.declared.state.Activation.TheVariants.{Library}
use Rattle.av_states.specs.declared.state.HeapObject.{HeapObject}
use Rattle.av_states.specs.declared.state.State.{State}
use Rattle.av_model.specs.Events.{Target, IntoMethod, IntoLibrary}
use Rattle.av_model.specs.Holding.{make_all_known, make_fresh}
use Rattle.av_model.specs.LibraryTypes.{IsLibraryClass}
use Rattle.av_model.specs.RunTypes.{IsInstance}
use Rattle.av_model.specs.Spots.{Spot, entered, frame_of, goes_on}
use Rattle.av_model.specs.UnseenClasses.{Search, ByOverriding, ByName, CanSelect, Selects}

-- ---- which method runs

-- a method of the world, or one of the library that nobody sees
pub data Callee : Type 0 where
  Seen : (method : MethodId) → Callee
  Unseen : Callee

-- On an object of the type, a call of the resolved method runs this one. The methods of an array are those of Object.
pub data RunsOn (w : List Shape) (search : Search) (resolved : MethodId) : RunType → Callee → Type 0 where
  on_class : (c : ClassId) (m : MethodId) → Selects search w c.number resolved m → RunsOn w search resolved (Class c) (Seen m)
  on_array : (item : RunType) (object : ℕ) (m : MethodId) → IsNamed w object object_name → Selects search w object resolved m
      → RunsOn w search resolved (Array item) (Seen m)
  on_unseen : (low : ClassId) (ifs : List ClassId) → CanSelect search w low ifs resolved → RunsOn w search resolved (Lib low ifs) Unseen

-- The call runs this method on the words that it takes, the receiver first. On a null receiver, where nothing is
-- selected, and where the receiver lacks the interface that invokeinterface names, it only throws.
pub data Runs (w : List Shape) (spot : Spot) (insn : Insn) (taken : List Held) (old : State) : Callee → Type 0 where
  by_static : (m : MethodId) → insn.op ≡ INVOKESTATIC → RefersToMethod w insn m → Runs w spot insn taken old (Seen m)
  by_special : (r : MethodRef) (resolved m : MethodId) (number : ℕ) (rest : List Held) → insn.op ≡ INVOKESPECIAL → insn.arg ≡ args.Method r
      → ResolvesCall w r resolved → taken ≡ Ref number ∷ rest → SelectsSpecial w spot.framed.method.class.number r resolved m
      → Runs w spot insn taken old (Seen m)
  by_virtual : (resolved : MethodId) (number : ℕ) (rest : List Held) (object : HeapObject) (callee : Callee) → insn.op ≡ INVOKEVIRTUAL
      → RefersToMethod w insn resolved → taken ≡ Ref number ∷ rest → slice_get old.heap number ≡ Some object
      → RunsOn w ByOverriding resolved object.made callee
      → Runs w spot insn taken old callee
  by_interface : (r : MethodRef) (resolved : MethodId) (number : ℕ) (rest : List Held) (object : HeapObject) (callee : Callee)
      → insn.op ≡ INVOKEINTERFACE → insn.arg ≡ args.Method r → ResolvesCall w r resolved → taken ≡ Ref number ∷ rest
      → slice_get old.heap number ≡ Some object → IsInstance w object.made r.class → RunsOn w ByName resolved object.made callee
      → Runs w spot insn taken old callee

-- ---- what is entered

-- the method without parameters and result that Object declares by this name
abbrev pub IsObjectMethod : List Shape → List ℕ → MethodId → Type 0
IsObjectMethod w name m = DeclaresMethod w name void_desc m × IsNamed w m.class.number object_name

-- The last frame becomes these, as the call of the method on these words enters its target; and the state is changed so.
-- The caller stays at its call, with all its words. The library gets into its hands what it is called on and with:
-- PassesKnown. But a call that runs Object's `finalize()V` gives it nothing, and Object's `<init>()V` makes its receiver
-- fresh alone and returns at once: FreshUntilKnown.
pub data Enters (w : List Shape) (methods : List FramedBody) (spot : Spot) (insn : Insn) (taken : List Held) (old : State) : Callee → Target → List Activation → State → Type 0 where
  own_method : (framed : FramedBody) → IsApplicationClass w framed.method.class.number → Contains methods framed
      → Enters w methods spot insn taken old (Seen framed.method) (IntoMethod framed.method) (frame_of spot ∷ entered framed taken ∷ []) old
  object_init : (m : MethodId) (number to : ℕ) → IsObjectMethod w init_name m → taken ≡ Ref number ∷ [] → IsNextStart spot.pc spot.framed.body.insns to
      → Enters w methods spot insn taken old (Seen m) IntoLibrary (goes_on spot insn [] to ∷ []) (make_fresh old number)
  object_finalize : (m : MethodId) → IsObjectMethod w finalize_name m
      → Enters w methods spot insn taken old (Seen m) IntoLibrary (frame_of spot ∷ Library ∷ []) old
  library_method : (m : MethodId) → IsLibraryClass w m.class → (IsObjectMethod w init_name m → ⊥) → (IsObjectMethod w finalize_name m → ⊥)
      → Enters w methods spot insn taken old (Seen m) IntoLibrary (frame_of spot ∷ Library ∷ []) (make_all_known old taken)
  unseen_method : Enters w methods spot insn taken old Unseen IntoLibrary (frame_of spot ∷ Library ∷ []) (make_all_known old taken)
