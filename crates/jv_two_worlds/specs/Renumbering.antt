-- One world inside another: each class of the one, and so all that is above it, stands in the other under another
-- number, as the same class (JVMS 4.1).
use Rattle.std.specs.Prelude.{◌≡◌, ℕ, List, Some, slice_get}
use Rattle.jv_types.specs.declared.ids.ClassId.{ClassId}
use Rattle.jv_types.specs.declared.ids.FieldId.{FieldId}
use Rattle.jv_types.specs.declared.ids.MethodId.{MethodId}
use Rattle.jv_types.specs.declared.shapes.Shape.{Shape}
use Rattle.jv_world.specs.Worlds.{HaveDistinctNames, IsWorld}
use Rattle.jv_two_worlds.specs.SameClasses.{IsSameClass}

-- Each class of the world w stands in v at the number that `to` gives it, as the same class; v has each name once. What a class of a world names as its superclass or as a superinterface is there, so that it stands in v too.
pub record StandsIn (w v : List Shape) (to : ℕ → ℕ) : Type 0 where
  pub world : IsWorld w
  pub distinct : HaveDistinctNames v
  pub shapes : (c : ℕ) (shape : Shape) → slice_get w c ≡ Some shape → (other : Shape) × (slice_get v (to c) ≡ Some other) × IsSameClass shape other

-- the class with the other number
abbrev pub class_to : (ℕ → ℕ) → ClassId → ClassId
class_to to c = record { number = to c.number }

-- the field at the same place in the class with the other number
abbrev pub field_to : (ℕ → ℕ) → FieldId → FieldId
field_to to f = record { class = class_to to f.class; index = f.index }

-- the method at the same place in the class with the other number
abbrev pub method_to : (ℕ → ℕ) → MethodId → MethodId
method_to to m = record { class = class_to to m.class; index = m.index }
