-- The shapes of a list that have a property.
use Rattle.std.specs.Prelude.{◌≤◌, List, length, Contains}
use Rattle.jv_types.specs.declared.shapes.Shape.{Shape}
use Rattle.jv_world.specs.Worlds.{HaveDistinctNames}

-- Just the shapes of a list that have the property, no two of one name.
pub record IsPart (P : Shape → Type 0) (w v : List Shape) : Type 0 where
  pub from : (s : Shape) → Contains v s → Contains w s × P s
  pub all : (s : Shape) → Contains w s → P s → Contains v s
  pub apart : HaveDistinctNames v
  pub count : length v ≤ length w
