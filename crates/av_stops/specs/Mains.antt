-- The method with which a program starts (rule 20).
use Rattle.std.specs.Prelude.{◌≡◌, ℕ, List, Option, None, Some, codes}
use Rattle.jv_types.specs.declared.ids.MethodId.{MethodId}
use Rattle.jv_types.specs.declared.shapes.MethodShape.{MethodShape}
use Rattle.jv_types.specs.declared.shapes.Shape.{Shape}
use Rattle.jv_world.specs.Worlds.{IsNamed}
use Rattle.jv_resolve.specs.Members.{IsMethod, IsPublic, IsStatic}
use Rattle.av_conditions.specs.Conditions.{main_desc}
use Rattle.av_conditions.specs.Initialisers.{IsApplicationClass}

-- a public static `main` of a class of the application itself, which takes strings and gives nothing
pub record IsMainMethod (w : List Shape) (m : MethodId) : Type 0 where
  pub application : IsApplicationClass w m.class.number
  pub shape : MethodShape
  pub place : IsMethod w m shape
  pub called : shape.name ≡ codes "main"
  pub takes_strings : shape.desc ≡ main_desc
  pub public : IsPublic shape.flags
  pub static : IsStatic shape.flags

-- it is that of the class of this name
pub record IsMainOf (w : List Shape) (class : List ℕ) (m : MethodId) : Type 0 where
  pub named : IsNamed w m.class.number class
  pub is_main : IsMainMethod w m

-- rule 20: the class of this name has none
abbrev pub HasNoMain : List Shape → List ℕ → Type 0
HasNoMain w class = (m : MethodId) → ¬ IsMainOf w class m

-- the start of a program: the main of the class that was asked for, or none where none was
abbrev pub IsStartOf : List Shape → Option (List ℕ) → Option MethodId → Type 0
IsStartOf w None main = main ≡ None
IsStartOf w (Some class) main = (m : MethodId) × (main ≡ Some m) × IsMainOf w class m
