-- What the stand-in sums up, as ten conditions on a set of facts. They speak of what application code does to the
-- library and of what the library may do to it, and not of the stand-in's code.
use Rattle.std.specs.Prelude.{◌≡◌, ◌+◌, ◌≤◌, ◌<◌, ℕ, ◌↔◌, Bool, IsTrue, false, List, [], ◌∷◌, Some, Contains}
use Rattle.jv_types.specs.declared.desc.Desc.{Desc}
use Rattle.jv_types.specs.declared.desc.Desc.TheVariants as descs
use Rattle.jv_types.specs.declared.desc.PrimType.{PrimType}
use Rattle.jv_types.specs.declared.desc.RefType.{RefType, Class, Array}
use Rattle.jv_types.specs.declared.fact.CallFrom.{CallFrom}
use Rattle.jv_types.specs.declared.fact.CallFrom.TheVariants.{Root, Site}
use Rattle.jv_types.specs.declared.fact.Fact.{Fact}
use Rattle.jv_types.specs.declared.fact.Fact.TheVariants as facts
use Rattle.jv_types.specs.declared.ids.ClassId.{ClassId}
use Rattle.jv_types.specs.declared.ids.FieldId.{FieldId}
use Rattle.jv_types.specs.declared.ids.MethodId.{MethodId}
use Rattle.jv_types.specs.declared.label.Label.{Label}
use Rattle.jv_types.specs.declared.label.Label.TheVariants.{Lib}
use Rattle.jv_types.specs.declared.label.LibBase.TheVariants as bases
use Rattle.jv_types.specs.declared.place.Place.{Place}
use Rattle.jv_types.specs.declared.place.Place.TheVariants as places
use Rattle.jv_types.specs.declared.shapes.FieldShape.{FieldShape}
use Rattle.jv_types.specs.declared.shapes.MethodShape.{MethodShape}
use Rattle.jv_types.specs.declared.shapes.Shape.{Shape}
use Rattle.jv_insn.specs.Effects.{cell_width, desc_cell}
use Rattle.jv_insn.specs.Leaving.{AtStack, words_taken}
use Rattle.jv_world.specs.Worlds.{object_name, IsNamed}
use Rattle.jv_resolve.specs.Members.{init_name, DeclaresMethod, IsAbstract, IsField, IsInterfaceClass, IsMethod, IsPrivate, IsStatic}
use Rattle.av_conditions.specs.CoreClasses.{finalize_name, void_desc}
use Rattle.av_conditions.specs.Initialisers.{IsApplicationClass, IsInitialiser}
use Rattle.av_rules.specs.Dispatching.{CallsAlike, LabelSelects, Runs}
use Rattle.av_rules.specs.Labels.{MayStandIn, Passes, PassesFlat, throwable_type}
use Rattle.av_rules.specs.Program.{Program, Point, IsEntryLocal, IsPoint, IsPushed, IsSlot, lowest_word, method_of, site_of, stack_place}
use Rattle.av_rules.specs.Rules.Argument.{first_argument}
use Rattle.av_rules.specs.Rules.Raise.{raise_place}
use Rattle.av_rules.specs.StandInClasses.{IsCollected, IsFreshField, IsKnownField, IsLibraryClass, IsPartClass}

-- ---- methods

abbrev pub IsApplicationMethod : List Shape → MethodId → Type 0
IsApplicationMethod w m = IsApplicationClass w m.class.number

-- a method of the stand-in that isn't abstract and is no item
pub record IsSummedUp (w : List Shape) (t : MethodId) : Type 0 where
  pub of_library : IsLibraryClass w t.class.number
  pub no_item : ¬ IsPartClass w t.class.number
  pub shape : MethodShape
  pub place : IsMethod w t shape
  pub concrete : ¬ IsAbstract shape.flags

-- Object's method of this name without parameters and result
abbrev pub IsObjectMethodNamed : List Shape → List ℕ → MethodId → Type 0
IsObjectMethodNamed w name m = IsNamed w m.class.number object_name × DeclaresMethod w name void_desc m

-- Object's `<init>()V`
abbrev pub IsObjectInit : List Shape → MethodId → Type 0
IsObjectInit w m = IsObjectMethodNamed w init_name m

-- Object's `finalize()V`
abbrev pub IsObjectFinalize : List Shape → MethodId → Type 0
IsObjectFinalize w m = IsObjectMethodNamed w finalize_name m

-- the parameters of reference type, each with the word at which it stands, where the first stands at this word
abbrev pub reference_words : ℕ → List Desc → List (ℕ × RefType)
reference_words word [] = []
reference_words word (descs.Prim prim ∷ params) = reference_words (word + cell_width (desc_cell (descs.Prim prim))) params
reference_words word (descs.Ref type ∷ params) = (word, type) ∷ reference_words (word + 1) params

-- ---- origins

-- a call comes from the library: its origin is no instruction of an application method
abbrev pub IsOfLibrary : List Shape → CallFrom → Type 0
IsOfLibrary w Root = Unit {0}
IsOfLibrary w (Site m pc) = ¬ IsApplicationMethod w m

-- an instruction of an application method is a call with an edge to a method that is summed up, and its resolved
-- method has that method's name and descriptor
pub record CallsOut (p : Program) (set : Fact → Type 0) (at : Point) (t : MethodId) : Type 0 where
  pub point : IsPoint p at
  pub application : IsApplicationMethod p.world (method_of at)
  pub summed_up : IsSummedUp p.world t
  pub alike : CallsAlike p at t
  pub edge : set (facts.Edge (site_of at) t)

-- ---- what the library holds

-- the library knows objects of the label
abbrev pub Knows : Program → (Fact → Type 0) → Label → Type 0
Knows p set label = (f : FieldId) × IsKnownField p.world f × set (facts.Pt (places.Static f) label)

-- such objects were only made: the library has them for finalize alone
abbrev pub HasFresh : Program → (Fact → Type 0) → Label → Type 0
HasFresh p set label = (f : FieldId) × IsFreshField p.world f × set (facts.Pt (places.Static f) label)

-- the library knows all that stands at a place
abbrev pub KnowsAllAt : Program → (Fact → Type 0) → Place → Type 0
KnowsAllAt p set place = (label : Label) → set (facts.Pt place label) → Knows p set label

-- what the library knows and passes a type stands at a place
abbrev pub HasKnownOf : Program → (Fact → Type 0) → RefType → Place → Type 0
HasKnownOf p set type place = (label : Label) → Knows p set label → Passes p label type → set (facts.Pt place label)

-- ---- the conditions on calls of the library

-- Hand over. The library knows the receivers of the methods that they select, and the arguments that are references;
-- Object's `<init>()V` and the receiver of Object's `finalize()V` are left out.
pub record HandOver (p : Program) (set : Fact → Type 0) : Type 0 where
  pub receivers : (at : Point) (t : MethodId) (label : Label) → CallsOut p set at t → ¬ IsObjectInit p.world t → ¬ IsObjectFinalize p.world t
      → Runs p at label t → set (facts.Pt (stack_place at (lowest_word at)) label) → Knows p set label
  pub arguments : (at : Point) (t : MethodId) (word : ℕ) → CallsOut p set at t → ¬ IsObjectInit p.world t → first_argument at.insn ≤ word
      → word < words_taken at.insn → IsSlot at.framed at.pc (AtStack (lowest_word at + word))
      → KnowsAllAt p set (stack_place at (lowest_word at + word))

-- Fresh objects. The receivers of Object's `<init>()V` are fresh.
abbrev pub FreshObjects : Program → (Fact → Type 0) → Type 0
FreshObjects p set = (at : Point) (t : MethodId) (label : Label) → CallsOut p set at t → IsObjectInit p.world t → Runs p at label t
    → set (facts.Pt (stack_place at (lowest_word at)) label) → HasFresh p set label

-- Answer. A call may answer whatever the library knows and passes the type of the result.
abbrev pub Answer : Program → (Fact → Type 0) → Type 0
Answer p set = (at : Point) (t : MethodId) (shape : MethodShape) (type : RefType) (place : Place) → CallsOut p set at t → IsMethod p.world t shape
    → shape.desc.result ≡ Some (descs.Ref type) → IsPushed at place → HasKnownOf p set type place

-- Throws known. A call may throw whatever throwable the library knows, but for Object's `<init>()V`.
abbrev pub ThrowsKnown : Program → (Fact → Type 0) → Type 0
ThrowsKnown p set = (at : Point) (t : MethodId) → CallsOut p set at t → ¬ IsObjectInit p.world t → HasKnownOf p set throwable_type (raise_place at)

-- ---- the conditions on what the library makes and calls

-- Makes all. The library makes an object of each collected class, and arrays of these and of the primitive types, of
-- at most so many dimensions.
pub record MakesAll (p : Program) (most : ℕ) (set : Fact → Type 0) : Type 0 where
  pub classes : (c : ClassId) (dims : ℕ) → IsCollected p.world c.number → ¬ IsInterfaceClass p.world c.number → dims ≤ most
      → Knows p set (Lib (bases.Class c) dims)
  pub primitives : (prim : PrimType) (dims : ℕ) → 0 < dims → dims ≤ most → Knows p set (Lib (bases.Prim prim) dims)

-- the library calls the application method on objects of this label, and knows what it throws
pub record IsCalled (p : Program) (set : Fact → Type 0) (label : Label) (a : MethodId) : Type 0 where
  pub origin : CallFrom
  pub of_library : IsOfLibrary p.world origin
  pub edge : set (facts.Edge origin a)
  pub receiver : (place : Place) → IsEntryLocal p a 0 place → set (facts.Pt place label)
  pub thrown : KnowsAllAt p set (places.Thr a)

-- its arguments are whatever the library knows and passes the types of the parameters, and the library knows what it
-- returns, where that is a reference
pub record PassesAndTakes (p : Program) (set : Fact → Type 0) (desc : MethodShape) (a : MethodId) : Type 0 where
  pub arguments : (word : ℕ) (type : RefType) (place : Place) → Contains (reference_words 1 desc.desc.params) (word, type)
      → IsEntryLocal p a word place → HasKnownOf p set type place
  pub returned : (type : RefType) → desc.desc.result ≡ Some (descs.Ref type) → KnowsAllAt p set (places.Ret a)

-- a method that the library may call: a collected one that is neither static, private nor `<init>`
pub record IsCallable (w : List Shape) (m : MethodId) (shape : MethodShape) : Type 0 where
  pub collected : IsCollected w m.class.number
  pub place : IsMethod w m shape
  pub instance : ¬ IsStatic shape.flags
  pub visible : ¬ IsPrivate shape.flags
  pub no_init : ¬ (shape.name ≡ init_name)

-- Call back. On each object that it knows the library may call each collected method of its class, where that selects
-- a method of the application.
abbrev pub CallBack : Program → (Fact → Type 0) → Type 0
CallBack p set = (m : MethodId) (shape : MethodShape) (interface : Bool) (label : Label) (a : MethodId) → IsCallable p.world m shape
    → IsTrue interface ↔ IsInterfaceClass p.world m.class.number → Knows p set label
    → PassesFlat p label (record { base = bases.Class m.class; dims = 0 }) → LabelSelects p interface label m a → IsApplicationMethod p.world a
    → IsCalled p set label a × PassesAndTakes p set shape a

-- Finalizes. The library may finalize each object that was made: it calls the method of the application that
-- `finalize()V` selects, and knows the object where that is one of the library, but Object's.
pub record Finalizes (p : Program) (set : Fact → Type 0) : Type 0 where
  pub calls : (finalize : MethodId) (label : Label) (a : MethodId) → IsObjectFinalize p.world finalize → HasFresh p set label
      → LabelSelects p false label finalize a → IsApplicationMethod p.world a → IsCalled p set label a
  pub knows : (finalize : MethodId) (label : Label) (a : MethodId) → IsObjectFinalize p.world finalize → HasFresh p set label
      → LabelSelects p false label finalize a → IsLibraryClass p.world a.class.number → ¬ IsObjectFinalize p.world a → Knows p set label

-- ---- the conditions on fields, elements and throwables

-- the library knows what stands at a place, and may put there what it knows and passes the type
abbrev pub IsOpen : Program → (Fact → Type 0) → RefType → Place → Type 0
IsOpen p set type place = KnowsAllAt p set place × HasKnownOf p set type place

-- a collected field of a reference type
pub record IsCollectedField (w : List Shape) (f : FieldId) (shape : FieldShape) (type : RefType) : Type 0 where
  pub collected : IsCollected w f.class.number
  pub place : IsField w f shape
  pub reference : shape.desc ≡ descs.Ref type

-- Fields open. The library reads and writes each collected field, those of objects where it knows the object.
pub record FieldsOpen (p : Program) (set : Fact → Type 0) : Type 0 where
  pub statics : (f : FieldId) (shape : FieldShape) (type : RefType) → IsCollectedField p.world f shape type → IsStatic shape.flags
      → IsOpen p set type (places.Static f)
  pub of_objects : (f : FieldId) (shape : FieldShape) (type : RefType) (label : Label) → IsCollectedField p.world f shape type → ¬ IsStatic shape.flags
      → Knows p set label → PassesFlat p label (record { base = bases.Class f.class; dims = 0 }) → IsOpen p set type (places.Field label f)

-- arrays of references
abbrev pub array_type : RefType
array_type = Array (Class object_name)

-- Elements open. The library reads and writes the items of each array of references that it knows.
pub record ElementsOpen (p : Program) (set : Fact → Type 0) : Type 0 where
  pub read : (array : Label) → Knows p set array → Passes p array array_type → KnowsAllAt p set (places.Elem array)
  pub written : (array item : Label) → Knows p set array → Passes p array array_type → Knows p set item → MayStandIn p item array
      → set (facts.Pt (places.Elem array) item)

-- Uncaught. The library knows what leaves main and each initialiser of the application that is entered.
pub record Uncaught (p : Program) (set : Fact → Type 0) : Type 0 where
  pub main : KnowsAllAt p set (places.Thr p.start)
  pub initialisers : (m : MethodId) → IsInitialiser p.world m → set (facts.Reach m) → KnowsAllAt p set (places.Thr m)

-- ---- all ten

-- the facts hold what the library may do, with arrays of at most so many dimensions
pub record Summary (p : Program) (most : ℕ) (set : Fact → Type 0) : Type 0 where
  pub hand_over : HandOver p set
  pub fresh_objects : FreshObjects p set
  pub answer : Answer p set
  pub throws_known : ThrowsKnown p set
  pub makes_all : MakesAll p most set
  pub call_back : CallBack p set
  pub finalizes : Finalizes p set
  pub fields_open : FieldsOpen p set
  pub elements_open : ElementsOpen p set
  pub uncaught : Uncaught p set
