-- What was put at the end of a list.
use Rattle.std.specs.Prelude.{◌≡◌, ◌↔◌, ◌<◌, ℕ, List, ◌++◌, Some, slice_get, Contains}

-- just the elements of which P holds were put at the end of a list, in some order, perhaps more than once
pub record Appends {X : Type 0} (P : X → Type 0) (old new : List X) : Type 0 where
  pub added : List X
  pub appended : new ≡ old ++ added
  pub exact : (x : X) → Contains added x ↔ P x

-- P holds of y and some element of the list
abbrev pub OfEach : {X Y : Type 0} → (X → Y → Type 0) → List X → Y → Type 0
OfEach {X} P xs y = (x : X) × Contains xs x × P x y

-- P holds of y, some element of the list and the place of that
abbrev pub OfEachPlace : {X Y : Type 0} → (X → ℕ → Y → Type 0) → List X → Y → Type 0
OfEachPlace {X} P xs y = (place : ℕ) × (x : X) × (slice_get xs place ≡ Some x) × P x place y

-- so it does of an element at a place below n
abbrev pub OfPlacesBelow : {X Y : Type 0} → ℕ → (X → ℕ → Y → Type 0) → List X → Y → Type 0
OfPlacesBelow {X} n P xs y = (place : ℕ) × (x : X) × (place < n) × (slice_get xs place ≡ Some x) × P x place y
