-- Lines that are added to lines.
use Rattle.std.specs.Prelude.{◌≡◌, ℕ, ◌⊎◌, ◌↔◌, List, Contains, AllPairs}
use Rattle.std.specs.Ordering.{nat_cmp}
use Rattle.std.specs.declared.cmp.Ordering.TheVariants.{Less}
use Rattle.std.specs.Cmp.Lexicographic.{slice_cmp}

-- a line that one of these has
abbrev pub IsLineOf : {X : Type 0} → (X → List ℕ → Type 0) → List X → List ℕ → Type 0
IsLineOf {X} P items line = (x : X) × Contains items x × P x line

-- the lines of P were added, and nothing else has changed
pub record AddsLines (P : List ℕ → Type 0) (old new : List (List ℕ)) : Type 0 where
  pub sorted : AllPairs (λ a b. slice_cmp nat_cmp a b ≡ Less) old → AllPairs (λ a b. slice_cmp nat_cmp a b ≡ Less) new
  pub exact : (line : List ℕ) → Contains new line ↔ (Contains old line ⊎ P line)
