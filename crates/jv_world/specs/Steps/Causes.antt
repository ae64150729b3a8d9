-- The searches for the least name that has a fault.
use Rattle.std.specs.Prelude.{◌≡◌, ◌≢◌, ℕ, ◌<◌, ◌⊎◌, if◌then◌else◌, List, Option, Some, None, MatchOption, map, slice_get, Contains}
use Rattle.std.specs.List.Sorted.{IsStrictlyIncreasing}
use Rattle.std.specs.Ordering.{nat_cmp, is_gt}
use Rattle.std.specs.Cmp.Lexicographic.{slice_cmp}
use Rattle.std.specs.declared.alloc.Global.{Global}
use Rattle.std.specs.declared.vec.Vec.{Vec}
use Rattle.jv_types.specs.declared.ids.ClassId.{ClassId}
use Rattle.jv_types.specs.declared.shapes.Shape.{Shape}
use Rattle.jv_world.specs.Worlds.{object_name, IsNamed, IsInterface, IsFinal, HasRightSupers, NamesSuper}
use Rattle.jv_world.specs.Refusals.{IsLeastName}
use Rattle.jv_world.specs.Steps.Building.{Has}

-- the lesser of the best name so far and this one
abbrev pub lesser_name : Option (List ℕ) → List ℕ → Option (List ℕ)
lesser_name None name = Some name
lesser_name (Some best) name = if is_gt (slice_cmp nat_cmp best name) then Some name else Some best

-- the least name of P, if it has any
abbrev pub IsLeastOf : (List ℕ → Type 0) → Option (List ℕ) → Type 0
IsLeastOf P None = (name : List ℕ) → ¬ P name
IsLeastOf P (Some best) = IsLeastName P best

-- the name is at no place of the list
abbrev pub IsNowhere : List (List ℕ) → List ℕ → Type 0
IsNowhere names name = (i : ℕ) → slice_get names i ≢ Some name

-- the best name stays where this one is there, and is the lesser of the two otherwise
abbrev pub TakesAbsent : List (List ℕ) → List ℕ → Option (List ℕ) → Option (List ℕ) → Type 0
TakesAbsent names name best new =
    (((i : ℕ) × (slice_get names i ≡ Some name)) × (new ≡ best)) ⊎ (IsNowhere names name × (new ≡ lesser_name best name))

abbrev pub TakesAbsentParent : List (List ℕ) → Option (List ℕ) → Option (List ℕ) → Option (List ℕ) → Type 0
TakesAbsentParent names parent best new = MatchOption parent (new ≡ best) (λ name. TakesAbsent names name best new)

-- one of the first classes names this supertype, which isn't there
abbrev pub IsAbsentBefore : List Shape → List (List ℕ) → ℕ → List ℕ → Type 0
IsAbsentBefore w names n name = (c : ℕ) × (shape : Shape) × (c < n) × (slice_get w c ≡ Some shape) × NamesSuper shape name × IsNowhere names name

-- the rows are by rising numbers
pub record AreRising (rows : List (Vec ClassId Global)) : Type 0 where
  pub rising : (c : ℕ) (row : Vec ClassId Global) → slice_get rows c ≡ Some row → IsStrictlyIncreasing (map (λ d. d.number) row.items)

-- the row of a class has the class itself
abbrev pub HasItself : List (Vec ClassId Global) → ℕ → Type 0
HasItself rows c = (row : Vec ClassId Global) × (slice_get rows c ≡ Some row) × Has row.items c

-- one of the first classes has this name, and is in its own row
abbrev pub IsOwnBefore : List Shape → List (Vec ClassId Global) → ℕ → List ℕ → Type 0
IsOwnBefore w rows n name = (c : ℕ) × (c < n) × IsNamed w c name × HasItself rows c

-- one of the first classes has this name, and a supertype of the wrong kind
abbrev pub IsWrongBefore : List Shape → ℕ → List ℕ → Type 0
IsWrongBefore w n name = (c : ℕ) × (shape : Shape) × (c < n) × (slice_get w c ≡ Some shape) × (shape.name ≡ name) × ¬ HasRightSupers w shape

-- the first classes have supertypes of the right kinds
abbrev pub AreRightBefore : List Shape → ℕ → Type 0
AreRightBefore w n = (c : ℕ) (shape : Shape) → c < n → slice_get w c ≡ Some shape → HasRightSupers w shape

-- the superclass is there for each class but Object, and neither an interface nor final
abbrev pub HasRightSuperclass : List Shape → Shape → Type 0
HasRightSuperclass w shape =
    MatchOption shape.parent (shape.name ≡ object_name)
    (λ name. (other : Shape) → Contains w other → other.name ≡ name → ¬ IsInterface other × ¬ IsFinal other)

-- the classes of these names are interfaces
abbrev pub AreInterfaces : List Shape → List (List ℕ) → Type 0
AreInterfaces w names = (other : Shape) → Contains w other → Contains names other.name → IsInterface other

abbrev pub ExtendsObject : Shape → Type 0
ExtendsObject shape = IsInterface shape → shape.parent ≡ Some object_name
