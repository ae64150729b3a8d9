-- Why a list of shapes is no world.
use Rattle.std.specs.Prelude.{ℕ, ◌≢◌, List}
use Rattle.std.specs.Ordering.{nat_cmp}
use Rattle.std.specs.Cmp.Lexicographic.{slice_cmp}
use Rattle.std.specs.declared.cmp.Ordering.TheVariants.{Greater}
use Rattle.jv_types.specs.declared.shapes.Shape.{Shape}
use Rattle.jv_world.specs.declared.refusal.HierRefusal.{HierRefusal}
use Rattle.jv_world.specs.declared.refusal.HierRefusal.TheVariants.{Missing, Circular, SuperKind, Memory}
use Rattle.jv_world.specs.Worlds.{IsAbsent, IsCircular, HasWrongSuper}

-- the least name, by bytes, of which P holds
pub record IsLeastName (P : List ℕ → Type 0) (name : List ℕ) : Type 0 where
  pub holds : P name
  pub least : (other : List ℕ) → P other → slice_cmp nat_cmp name other ≢ Greater

-- what each answer says of the list: the causes are asked in this order, and each at the least name
abbrev pub HasCause : List Shape → HierRefusal → Type 0
HasCause w (Missing name) = IsLeastName (IsAbsent w) name
HasCause w (Circular name) = ((absent : List ℕ) → ¬ IsAbsent w absent) × IsLeastName (IsCircular w) name
HasCause w (SuperKind name) =
    ((absent : List ℕ) → ¬ IsAbsent w absent) × ((circular : List ℕ) → ¬ IsCircular w circular)
    × IsLeastName (HasWrongSuper w) name
HasCause w Memory = Unit {0}
