-- A world of classes and interfaces: a list of shapes. A class is spoken of by its number, which is its
-- place in the list (JVMS 4.1, 5.3.5).
use Rattle.std.specs.Prelude.{◌≡◌, ℕ, zero, suc, ◌<◌, ◌^◌, ◌⊎◌, List, [], ◌∷◌, Some, MatchOption, length, map, bit_and, codes, Contains}
use Rattle.std.specs.List.{slice_get}
use Rattle.std.specs.List.Sorted.{IsStrictlyIncreasing}
use Rattle.jv_types.specs.declared.ids.ClassId.{ClassId}
use Rattle.jv_types.specs.declared.shapes.Shape.{Shape}

abbrev pub object_name : List ℕ
object_name = codes "java/lang/Object"

-- an interface (JVMS table 4.1-B)
abbrev pub IsInterface : Shape → Type 0
IsInterface shape = bit_and shape.flags.0 512 ≡ 512

-- a final class
abbrev pub IsFinal : Shape → Type 0
IsFinal shape = bit_and shape.flags.0 16 ≡ 16

-- the class of this number has this name
abbrev pub IsNamed : List Shape → ℕ → List ℕ → Type 0
IsNamed w c name = (shape : Shape) × (slice_get w c ≡ Some shape) × (shape.name ≡ name)

-- the class c has the class d as its direct superclass
abbrev pub HasSuperclass : List Shape → ℕ → ℕ → Type 0
HasSuperclass w c d =
    (shape : Shape) × (name : List ℕ) × (slice_get w c ≡ Some shape) × (shape.parent ≡ Some name) × IsNamed w d name

-- the class or interface c has the interface d as a direct superinterface
abbrev pub HasInterface : List Shape → ℕ → ℕ → Type 0
HasInterface w c d =
    (shape : Shape) × (name : List ℕ) × (slice_get w c ≡ Some shape) × Contains shape.interfaces name × IsNamed w d name

-- a link from a class to a direct supertype
abbrev pub HasSuper : List Shape → ℕ → ℕ → Type 0
HasSuper w c d = HasSuperclass w c d ⊎ HasInterface w c d

-- b is a subtype of d: d is b, or is reached from b by superclass and superinterface links
pub data Sub (w : List Shape) : ℕ → ℕ → Type 0 where
  same : (b d : ℕ) → b ≡ d → Sub w b d
  link : (b c d : ℕ) → HasSuper w b c → Sub w c d → Sub w b d

-- d is a proper supertype of b: it is reached by one link or more
abbrev pub ProperSub : List Shape → ℕ → ℕ → Type 0
ProperSub w b d = (c : ℕ) × HasSuper w b c × Sub w c d

-- as many superclass links lead from the class c to the class d
abbrev pub Climbs : List Shape → ℕ → ℕ → ℕ → Type 0
Climbs w zero c d = c ≡ d
Climbs w (suc n) c d = (e : ℕ) × HasSuperclass w c e × Climbs w n e d

-- the class c is d or a subclass of it: superclass links alone lead from c to d
abbrev pub IsSubclass : List Shape → ℕ → ℕ → Type 0
IsSubclass w c d = (links : ℕ) × Climbs w links c d

-- the superclasses of c, the direct one first and the one without a superclass last
abbrev pub AreSuperclasses : List Shape → ℕ → List ℕ → Type 0
AreSuperclasses w c [] = (d : ℕ) → ¬ HasSuperclass w c d
AreSuperclasses w c (d ∷ ds) = HasSuperclass w c d × AreSuperclasses w d ds

-- a class names this one as its superclass or as a superinterface
abbrev pub NamesSuper : Shape → List ℕ → Type 0
NamesSuper shape name = (shape.parent ≡ Some name) ⊎ Contains shape.interfaces name

-- a class names this one as its superclass or as a superinterface, and no class has the name
pub record IsAbsent (w : List Shape) (name : List ℕ) : Type 0 where
  pub shape : Shape
  pub here : Contains w shape
  pub names : (shape.parent ≡ Some name) ⊎ Contains shape.interfaces name
  pub nowhere : (c : ℕ) → ¬ IsNamed w c name

-- the class of this name is its own proper supertype
abbrev pub IsCircular : List Shape → List ℕ → Type 0
IsCircular w name = (c : ℕ) × IsNamed w c name × ProperSub w c c

-- the supertypes that a class names are of the right kinds (JVMS 4.1, 5.3.5)
pub record HasRightSupers (w : List Shape) (shape : Shape) : Type 0 where
  -- Object alone has no superclass, and a superclass is neither an interface nor final
  pub superclass : MatchOption shape.parent (shape.name ≡ object_name)
      (λ name. (other : Shape) → Contains w other → other.name ≡ name → ¬ IsInterface other × ¬ IsFinal other)
  -- a superinterface is an interface
  pub superinterfaces : (other : Shape) → Contains w other → Contains shape.interfaces other.name → IsInterface other
  -- the superclass of an interface is Object
  pub of_interface : IsInterface shape → shape.parent ≡ Some object_name

-- the class of this name has a supertype of the wrong kind
abbrev pub HasWrongSuper : List Shape → List ℕ → Type 0
HasWrongSuper w name = (shape : Shape) × Contains w shape × (shape.name ≡ name) × ¬ HasRightSupers w shape

-- no two classes have one name
abbrev pub HaveDistinctNames : List Shape → Type 0
HaveDistinctNames w = (c d : ℕ) (name : List ℕ) → IsNamed w c name → IsNamed w d name → c ≡ d

-- What a list of shapes needs so that numbers of 32 bits name its classes and numbers of 16 bits their
-- members.
pub record AreNumbered (w : List Shape) : Type 0 where
  pub distinct : HaveDistinctNames w
  pub count : length w < 2 ^ 32
  pub fields : (shape : Shape) → Contains w shape → length shape.fields < 2 ^ 16
  pub methods : (shape : Shape) → Contains w shape → length shape.methods < 2 ^ 16

-- A world: names are distinct, each supertype is there and of the right kind, and each link leads to a
-- class of lower rank, so that no class is its own proper supertype.
pub record IsWorld (w : List Shape) : Type 0 where
  pub numbered : AreNumbered w
  pub none_absent : (name : List ℕ) → ¬ IsAbsent w name
  pub right_supers : (shape : Shape) → Contains w shape → HasRightSupers w shape
  pub rank : ℕ → ℕ
  pub falls : (c d : ℕ) → HasSuper w c d → rank d < rank c
  pub bound : (c : ℕ) → c < length w → rank c < length w

-- all proper supertypes of the class c, each once, least number first
pub record AreProperSupers (w : List Shape) (c : ℕ) (ds : List ClassId) : Type 0 where
  pub all : (d : ClassId) → ProperSub w c d.number → Contains ds d
  pub only : (d : ClassId) → Contains ds d → ProperSub w c d.number
  pub rising : IsStrictlyIncreasing (map (λ d. d.number) ds)
