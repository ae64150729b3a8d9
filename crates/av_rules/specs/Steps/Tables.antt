-- Tables by the numbers of classes.
use Rattle.std.specs.Prelude.{◌≡◌, ℕ, List, Option, Some, None, length, slice_get}
use Rattle.jv_types.specs.declared.ids.ClassId.{ClassId}
use Rattle.jv_types.specs.declared.shapes.Shape.{Shape}
use Rattle.av_rules.specs.StandInClasses.{IsAnyClassOf}

-- the elements of a list are those of the numbers below n, of each of which P says what it is
pub record AreOfEach {X : Type 0} (P : ℕ → X → Type 0) (n : ℕ) (xs : List X) : Type 0 where
  pub count : length xs ≡ n
  pub exact : (k : ℕ) (x : X) → slice_get xs k ≡ Some x → P k x

-- the class of any object of the class c, or that there is none
abbrev pub SaysAny : List Shape → ℕ → Option ClassId → Type 0
SaysAny w c None = (any : ℕ) → ¬ IsAnyClassOf w c any
SaysAny w c (Some any) = IsAnyClassOf w c any.number
