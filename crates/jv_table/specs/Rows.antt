-- Rows in order of their keys.
use Rattle.std.specs.Prelude.{◌≡◌, ℕ, Bool, true, ◌&&◌, List, [], ◌∷◌, Option, Some, None, if◌then◌else◌}
use Rattle.std.specs.declared.cmp.Ordering.{Ordering}
use Rattle.std.specs.declared.cmp.Ordering.TheVariants.{Equal}
use Rattle.std.specs.List.{slice_get}
use Rattle.std.specs.Ordering.{is_lt, is_eq}

-- the keys of these rows are above a key, and rise
abbrev pub rises_above : {K R : Type 0} → (K → K → Ordering) → K → List (K × R) → Bool
rises_above cmp key [] = true
rises_above cmp key (row ∷ rows) = is_lt (cmp key row.0) && rises_above cmp row.0 rows

-- the keys rise from row to row
abbrev pub rises : {K R : Type 0} → (K → K → Ordering) → List (K × R) → Bool
rises cmp [] = true
rises cmp (row ∷ rows) = rises_above cmp row.0 rows

-- the row of a key
abbrev pub row_of : {K R : Type 0} → (K → K → Ordering) → K → List (K × R) → Option R
row_of cmp key [] = None
row_of cmp key (row ∷ rows) = if is_eq (cmp key row.0) then Some row.1 else row_of cmp key rows

-- one of the rows has a key that compares as equal to this one
pub record IsRowOf {K R : Type 0} (cmp : K → K → Ordering) (key : K) (rows : List (K × R)) (row : R) : Type 0 where
  pub place : ℕ
  pub own_key : K
  pub stands : slice_get rows place ≡ Some (own_key, row)
  pub equal : cmp key own_key ≡ Equal
