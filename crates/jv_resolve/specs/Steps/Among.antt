-- Methods of superinterfaces, as a list of them.
use Rattle.std.specs.Prelude.{◌≡◌, ℕ, List, Contains}
use Rattle.jv_types.specs.declared.desc.MethodDesc.{MethodDesc}
use Rattle.jv_types.specs.declared.ids.MethodId.{MethodId}
use Rattle.jv_types.specs.declared.shapes.Shape.{Shape}
use Rattle.jv_world.specs.Worlds.{ProperSub}
use Rattle.jv_resolve.specs.Members.{HasMethod, IsConcrete}
use Rattle.jv_resolve.specs.Inheriting.{IsSuperinterfaceMethod}

-- the list has the superinterface methods of the class c, and no others
pub record AreSuperinterfaceMethods (w : List Shape) (c : ℕ) (name : List ℕ) (desc : MethodDesc) (ms : List MethodId) : Type 0 where
  pub all : (m : MethodId) → IsSuperinterfaceMethod w c name desc m → Contains ms m
  pub only : (m : MethodId) → Contains ms m → IsSuperinterfaceMethod w c name desc m

-- the methods are of the world
pub record AreHere (w : List Shape) (ms : List MethodId) : Type 0 where
  pub here : (m : MethodId) → Contains ms m → HasMethod w m

-- none of them is one of a proper subinterface
abbrev pub IsSpecificAmong : List Shape → List MethodId → MethodId → Type 0
IsSpecificAmong w ms m = (other : MethodId) → Contains ms other → ¬ ProperSub w other.class.number m.class.number

abbrev pub IsDefaultAmong : List Shape → List MethodId → MethodId → Type 0
IsDefaultAmong w ms m = IsConcrete w m × IsSpecificAmong w ms m

-- the only one among them that is maximally specific and not abstract
pub record IsSingleAmong (w : List Shape) (ms : List MethodId) (m : MethodId) : Type 0 where
  pub among : Contains ms m
  pub default : IsDefaultAmong w ms m
  pub only : (other : MethodId) → Contains ms other → IsDefaultAmong w ms other → other ≡ m
