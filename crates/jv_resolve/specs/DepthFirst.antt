-- Which class a search depth first finds.
use Rattle.std.specs.Prelude.{◌≡◌, ℕ, zero, suc, ◌<◌, ◌++◌, List, Some, option_to_list}
use Rattle.std.specs.List.{slice_get}
use Rattle.jv_types.specs.declared.shapes.Shape.{Shape}
use Rattle.jv_world.specs.Worlds.{IsNamed, Sub}

-- the names of the direct superinterfaces in the order of the file, and then that of the superclass
abbrev pub direct_supers : Shape → List (List ℕ)
direct_supers s = s.interfaces ++ option_to_list s.parent

-- the class d is such a one as P says, or one above it is
abbrev pub LeadsUpTo : List Shape → (ℕ → Type 0) → ℕ → Type 0
LeadsUpTo w P d = (e : ℕ) × Sub w d e × P e

-- d is the class of the first of the names that leads to such a one
pub record IsFirstLeading (w : List Shape) (P : ℕ → Type 0) (names : List (List ℕ)) (d : ℕ) : Type 0 where
  pub place : ℕ
  pub name : List ℕ
  pub at_place : slice_get names place ≡ Some name
  pub named : IsNamed w d name
  pub leads : LeadsUpTo w P d
  pub before : (k : ℕ) (other : List ℕ) (e : ℕ) → k < place → slice_get names k ≡ Some other → IsNamed w e other → ¬ LeadsUpTo w P e

-- d is the first of the direct supers of c that leads to such a one
abbrev pub IsFirstWay : List Shape → (ℕ → Type 0) → ℕ → ℕ → Type 0
IsFirstWay w P c d = (shape : Shape) × (slice_get w c ≡ Some shape) × IsFirstLeading w P (direct_supers shape) d

-- A search depth first from the class c ends at the class d: a class comes before its supers, its superinterfaces
-- and all that is above them come in the order of the file, and its superclass with all above it comes last.
abbrev pub IsFirstBy : List Shape → (ℕ → Type 0) → ℕ → ℕ → ℕ → Type 0
IsFirstBy w P zero c d = (c ≡ d) × P d
IsFirstBy w P (suc n) c d = ¬ P c × (e : ℕ) × IsFirstWay w P c e × IsFirstBy w P n e d

abbrev pub IsFirst : List Shape → (ℕ → Type 0) → ℕ → ℕ → Type 0
IsFirst w P c d = (links : ℕ) × IsFirstBy w P links c d
