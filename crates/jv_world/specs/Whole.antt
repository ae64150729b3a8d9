-- Which classes of a list are whole: they and all their supertypes are there, of the right kinds and without a
-- circle (JVMS 4.1, 5.3.5).
use Rattle.std.specs.Prelude.{◌≡◌, ℕ, ◌↔◌, Bool, IsTrue, List, Some, length, slice_get}
use Rattle.jv_types.specs.declared.shapes.Shape.{Shape}
use Rattle.jv_world.specs.Worlds.{HasRightSupers, IsNamed, NamesSuper, ProperSub, Sub}

-- the supertypes that the class names are there
abbrev pub HasSupersThere : List Shape → Shape → Type 0
HasSupersThere w shape = (name : List ℕ) → NamesSuper shape name → (d : ℕ) × IsNamed w d name

-- the supertypes that the class of this number names are there and of the right kinds, and it is not its own
-- proper supertype
pub record IsSound (w : List Shape) (c : ℕ) : Type 0 where
  pub shape : Shape
  pub place : slice_get w c ≡ Some shape
  pub there : HasSupersThere w shape
  pub right : HasRightSupers w shape
  pub no_circle : ¬ ProperSub w c c

-- so are the class and each of its supertypes
abbrev pub IsWhole : List Shape → ℕ → Type 0
IsWhole w c = (d : ℕ) → Sub w c d → IsSound w d

-- the marks of the numbers below n: each says whether P holds there
pub record AreMarks (P : ℕ → Type 0) (n : ℕ) (marks : List Bool) : Type 0 where
  pub count : length marks ≡ n
  pub exact : (c : ℕ) (mark : Bool) → slice_get marks c ≡ Some mark → IsTrue mark ↔ P c
