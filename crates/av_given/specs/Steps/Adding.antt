-- Lists that grow by what parts of something have.
use Rattle.std.specs.Prelude.{◌≡◌, ◌<◌, ◌⊎◌, ℕ, List, Some, slice_get, Contains}

-- the list has what it had, and besides just what P holds of
pub record Adds {X : Type 0} (P : X → Type 0) (old new : List X) : Type 0 where
  pub kept : (x : X) → Contains old x → Contains new x
  pub added : (x : X) → P x → Contains new x
  pub only : (x : X) → Contains new x → Contains old x ⊎ P x

-- an element of the list, by its place, has x
abbrev pub SomeOf : {A X : Type 0} → (ℕ → A → X → Type 0) → List A → X → Type 0
SomeOf {A} Q parts x = (place : ℕ) × (part : A) × (slice_get parts place ≡ Some part) × Q place part x

-- one of the first so many does
abbrev pub SomeBefore : {A X : Type 0} → (ℕ → A → X → Type 0) → List A → ℕ → X → Type 0
SomeBefore {A} Q parts count x = (place : ℕ) × (part : A) × (place < count) × (slice_get parts place ≡ Some part) × Q place part x
