-- What a world keeps beside its shapes: their names in order, the proper supertypes of each class, and the places
-- of its members.
use Rattle.std.specs.Prelude.{◌≡◌, ℕ, List, Some, length, map, slice_get}
use Rattle.std.specs.declared.alloc.Global.{Global}
use Rattle.std.specs.declared.vec.Vec.{Vec}
use Rattle.jv_types.specs.declared.ids.ClassId.{ClassId}
use Rattle.jv_types.specs.declared.shapes.Shape.{Shape}
use Rattle.jv_world.specs.declared.members.Members.{Members}
use Rattle.jv_world.specs.Worlds.{AreProperSupers, IsWorld}
use Rattle.jv_world.specs.Steps.Ordered.{AreIndexed}

pub record IsKept (w : List Shape) (names : List (List ℕ)) (supers : List (Vec ClassId Global)) (members : List Members) : Type 0 where
  pub world : IsWorld w
  pub names_are : names ≡ map (λ s. s.name) w
  pub supers_count : length supers ≡ length w
  pub supers_are : (c : ℕ) (ds : Vec ClassId Global) → slice_get supers c ≡ Some ds → AreProperSupers w c ds.items
  pub members_are : AreIndexed w (length w) members
