-- Classes that a search depth first looks for, as a list of them.
use Rattle.std.specs.Prelude.{◌≡◌, ℕ, ◌<◌, List, Some, length, Contains}
use Rattle.std.specs.List.{slice_get}
use Rattle.jv_types.specs.declared.desc.Desc.{Desc}
use Rattle.jv_types.specs.declared.ids.ClassId.{ClassId}
use Rattle.jv_types.specs.declared.shapes.Shape.{Shape}
use Rattle.jv_world.specs.Worlds.{IsNamed, Sub}
use Rattle.jv_resolve.specs.DepthFirst.{LeadsUpTo}
use Rattle.jv_resolve.specs.Resolving.{DeclaresFieldIn}

-- no class of these names leads to such a one
abbrev pub NoneLeads : List Shape → (ℕ → Type 0) → List (List ℕ) → Type 0
NoneLeads w P names = (k : ℕ) (name : List ℕ) (d : ℕ) → slice_get names k ≡ Some name → IsNamed w d name → ¬ LeadsUpTo w P d

-- the class of this number is in the list
abbrev pub IsTarget : List ClassId → ℕ → Type 0
IsTarget targets c = Contains targets (record { number = c })

-- the classes are of the world
pub record AreClasses (w : List Shape) (targets : List ClassId) : Type 0 where
  pub here : (c : ClassId) → Contains targets c → c.number < length w

-- the classes are those from the class c on upwards that declare the field
pub record AreDeclaring (w : List Shape) (c : ℕ) (name : List ℕ) (desc : Desc) (ds : List ClassId) : Type 0 where
  pub all : (d : ClassId) → Sub w c d.number → DeclaresFieldIn w name desc d.number → Contains ds d
  pub only : (d : ClassId) → Contains ds d → Sub w c d.number × DeclaresFieldIn w name desc d.number
