-- A class with some of its members alone.
use Rattle.std.specs.Prelude.{◌≡◌, ℕ, zero, List, [], ◌∷◌, Option, None, Some, Contains}
use Rattle.jv_types.specs.declared.shapes.Shape.{Shape}
use Rattle.av_collected.specs.Answers.{Picks}

-- the element that is there, or none
abbrev pub listed : {X : Type 0} → Option X → List X
listed None = []
listed (Some x) = x ∷ []

-- the class with the fields and the methods at these places alone, in the order of its file
pub record HasOnly (fields methods : List ℕ) (full reduced : Shape) : Type 0 where
  pub name : reduced.name ≡ full.name
  pub flags : reduced.flags ≡ full.flags
  pub parent : reduced.parent ≡ full.parent
  pub interfaces : reduced.interfaces ≡ full.interfaces
  pub application : reduced.application ≡ full.application
  pub kept_fields : Picks (Contains fields) zero full.fields reduced.fields
  pub kept_methods : Picks (Contains methods) zero full.methods reduced.methods
