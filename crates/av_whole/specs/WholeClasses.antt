-- The whole classes of a list of shapes, and the world that they make (JVMS 4.1, 5.3.5).
use Rattle.std.specs.Prelude.{◌≡◌, ℕ, List, Some, slice_get, Contains}
use Rattle.jv_types.specs.declared.shapes.Shape.{Shape}
use Rattle.jv_world.specs.Whole.{IsWhole}
use Rattle.jv_world.specs.Worlds.{IsWorld}

-- the shape is that of a whole class of the list
abbrev pub IsWholeIn : List Shape → Shape → Type 0
IsWholeIn shapes s = (c : ℕ) × (slice_get shapes c ≡ Some s) × IsWhole shapes c

-- the world has the whole classes of the list and no others
pub record HasWholeClasses (shapes w : List Shape) : Type 0 where
  pub world : IsWorld w
  pub only : (s : Shape) → Contains w s → IsWholeIn shapes s
  pub all : (s : Shape) → IsWholeIn shapes s → Contains w s
