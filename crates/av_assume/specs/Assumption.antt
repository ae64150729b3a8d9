-- What is assumed of every library, in ten clauses. Library code was compiled without the application, so it names no class
-- of the application. It may do all that the clauses below allow, and nothing else; each stands where it allows or forbids
-- something:
--
-- DeclaredAsStated: the library's classes have the supertypes, flags and members that the world states. A class that nobody
--   sees overrides no package-private method that is declared outside the package of the lowest class that it extends
--   (av_model, UnseenClasses).
-- NeverBelowApplication: no type of the library is below one of the application (av_model, LibraryTypes).
-- MakesAndCopies: it makes objects of its own types, and copies of what it knows (LibraryMoves, `MakesObject`).
-- CallsBack: it calls, on what it knows, instance methods that its own types declare (`IsCalledBack`, `CallsApplication`).
-- PassesKnown: what it hands over is known and fits the declared type; what it is handed becomes known (`IsHandedOver`;
--   av_model, Calling, Returning and Raising).
-- UsesNamedFields: of fields it reads and writes those of its own classes (`IsLibraryField`).
-- UsesElements: it reads items of the arrays that it knows, and writes what fits there (`IsKnownArray`, `FitsKnown`).
-- ThrowsKnownThrowables: it throws what it knows that is a Throwable (LibraryMoves, `throws_known`).
-- EntersOnlyAtStart: initialisers and static methods of the application it enters at the start alone (LibraryMoves,
--   `EntersAtStart`).
-- FreshUntilKnown: an object on which only the constructor of java/lang/Object was called may be finalized, and is no more
--   known for that (`IsFinalizable`; av_model, Calling).
use Rattle.std.specs.Prelude.{◌≡◌, ℕ, ◌⊎◌, List, [], ◌∷◌, Some, slice_get, Contains}
use Rattle.jv_types.specs.declared.desc.Desc.{Desc}
use Rattle.jv_types.specs.declared.desc.Desc.TheVariants as descs
use Rattle.jv_types.specs.declared.desc.RefType.{RefType}
use Rattle.jv_types.specs.declared.ids.ClassId.{ClassId}
use Rattle.jv_types.specs.declared.ids.FieldId.{FieldId}
use Rattle.jv_types.specs.declared.ids.MethodId.{MethodId}
use Rattle.jv_types.specs.declared.shapes.FieldShape.{FieldShape}
use Rattle.jv_types.specs.declared.shapes.MethodShape.{MethodShape}
use Rattle.jv_types.specs.declared.shapes.Shape.{Shape}
use Rattle.jv_resolve.specs.Members.{init_name, IsField, IsInterfaceClass, IsMethod, IsPrivate, IsStatic}
use Rattle.av_conditions.specs.CoreClasses.{finalize_name}
use Rattle.av_conditions.specs.Initialisers.{IsApplicationClass, clinit_name}
use Rattle.av_states.specs.declared.held.Held.{Held}
use Rattle.av_states.specs.declared.held.Held.TheVariants.{Null, Ref, Word}
use Rattle.av_states.specs.declared.run_type.RunType.{RunType, Class}
use Rattle.av_states.specs.declared.state.HeapObject.{HeapObject}
use Rattle.av_states.specs.declared.state.State.{State}
use Rattle.av_model.specs.Calling.{IsObjectMethod}
use Rattle.av_model.specs.LibraryTypes.{IsLibraryClass}
use Rattle.av_model.specs.RunTypes.{Fits, IsInstance, IsOfClass, IsReferenceArray}
use Rattle.av_model.specs.UnseenClasses.{Search, ByName, ByOverriding, Selects}

-- ---- what is known

-- the library has the object of this number in its hands
abbrev pub IsKnown : State → ℕ → HeapObject → Type 0
IsKnown state number object = Contains state.known number × (slice_get state.heap number ≡ Some object)

-- PassesKnown: what the library hands over as a value of this type. A reference is null, or to a known instance of the
-- type; a number is a word.
pub data IsHandedOver (w : List Shape) (state : State) : Desc → Held → Type 0 where
  hands_number : (prim : _) → IsHandedOver w state (descs.Prim prim) Word
  hands_null : (type : RefType) → IsHandedOver w state (descs.Ref type) Null
  hands_object : (type : RefType) (number : ℕ) (object : HeapObject) → IsKnown state number object → IsInstance w object.made type
      → IsHandedOver w state (descs.Ref type) (Ref number)

-- the same of arguments, one for each parameter
pub data AreHandedOver (w : List Shape) (state : State) : List Desc → List Held → Type 0 where
  hands_none : AreHandedOver w state [] []
  hands_more : (desc : Desc) (held : Held) (descs : List Desc) (values : List Held) → IsHandedOver w state desc held → AreHandedOver w state descs values
      → AreHandedOver w state (desc ∷ descs) (held ∷ values)

-- ---- calls

-- CallsBack: an instance method that a type of the library declares, which is neither private nor an initialiser
pub record IsCalledBack (w : List Shape) (m : MethodId) (shape : MethodShape) : Type 0 where
  pub of_library : IsLibraryClass w m.class
  pub place : IsMethod w m shape
  pub not_static : IsStatic shape.flags → ⊥
  pub not_private : IsPrivate shape.flags → ⊥
  pub no_init : shape.name ≡ init_name → ⊥
  pub no_clinit : shape.name ≡ clinit_name → ⊥

-- the library calls methods of its interfaces by name and descriptor, and those of its classes by overriding
pub data IsSearch (w : List Shape) (m : MethodId) : Search → Type 0 where
  of_interface : IsInterfaceClass w m.class.number → IsSearch w m ByName
  of_class : (IsInterfaceClass w m.class.number → ⊥) → IsSearch w m ByOverriding

-- FreshUntilKnown: the library finalizes an object that is fresh, also where it isn't known (JLS 12.6)
pub record IsFinalizable (w : List Shape) (state : State) (m : MethodId) (number : ℕ) (object : HeapObject) : Type 0 where
  pub finalizes : IsObjectMethod w finalize_name m
  pub fresh : Contains state.fresh number
  pub place : slice_get state.heap number ≡ Some object

-- the library may call the method on the object: it is known and an instance of the method's type, or is finalized
abbrev pub IsReceiver : List Shape → State → MethodId → ℕ → HeapObject → Type 0
IsReceiver w state m number object =
    (IsKnown state number object × IsOfClass w object.made m.class) ⊎ IsFinalizable w state m number object

-- A call of the method on the object of this number runs one of the application, which is entered on it. Where a call
-- runs a method of the library's, nothing happens that isn't a move of its own.
pub record CallsApplication (w : List Shape) (state : State) (m : MethodId) (shape : MethodShape) (number : ℕ) (runs : MethodId) : Type 0 where
  pub called_back : IsCalledBack w m shape
  pub object : HeapObject
  pub receiver : IsReceiver w state m number object
  pub class : ClassId
  pub of_class : object.made ≡ Class class
  pub search : Search
  pub searches : IsSearch w m search
  pub selects : Selects search w class.number m runs
  pub of_application : IsApplicationClass w runs.class.number

-- ---- fields and items

-- UsesNamedFields: a field of reference type of a class of the library. The world has only those that the application
-- names.
pub record IsLibraryField (w : List Shape) (field : FieldId) (shape : FieldShape) (type : RefType) : Type 0 where
  pub of_library : IsLibraryClass w field.class
  pub place : IsField w field shape
  pub of_reference : shape.desc ≡ descs.Ref type

-- UsesElements: a known array of references, whose items are of this type
pub record IsKnownArray (state : State) (number : ℕ) (array : HeapObject) (item : RunType) : Type 0 where
  pub known : IsKnown state number array
  pub of_references : IsReferenceArray array.made item

-- what the library writes there: null, or a known object that fits
pub data FitsKnown (w : List Shape) (state : State) (item : RunType) : Held → Type 0 where
  fits_null : FitsKnown w state item Null
  fits_object : (number : ℕ) (object : HeapObject) → IsKnown state number object → Fits w object.made item → FitsKnown w state item (Ref number)
