-- The classes of a world of application and stand-in: those that the stand-in has of its own, and those that it
-- has in the place of the library's, the collected ones.
use Rattle.std.specs.Prelude.{◌≡◌, ℕ, ◌⊎◌, false, List, [], ◌∷◌, ◌++◌, Some, codes, slice_get}
use Rattle.jv_types.specs.declared.ids.FieldId.{FieldId}
use Rattle.jv_types.specs.declared.ids.MethodId.{MethodId}
use Rattle.jv_types.specs.declared.shapes.Shape.{Shape}
use Rattle.jv_world.specs.Worlds.{IsFinal, IsInterface, IsNamed, Sub}
use Rattle.jv_resolve.specs.Members.{DeclaresField, HasMethod}
use Rattle.av_conditions.specs.CoreClasses.{throwable_name}
use Rattle.av_conditions.specs.StandIn.{any_name, fresh_name, known_name, library_name, object_desc}

-- ---- library classes

-- the class of this number is one of the library's or of the stand-in's own
abbrev pub IsLibraryClass : List Shape → ℕ → Type 0
IsLibraryClass w c = (shape : Shape) × (slice_get w c ≡ Some shape) × (shape.application ≡ false)

-- a library class that may be extended: neither final nor an interface
pub record IsOpenClass (w : List Shape) (c : ℕ) (class : Shape) : Type 0 where
  pub place : slice_get w c ≡ Some class
  pub of_library : class.application ≡ false
  pub extendable : ¬ IsFinal class
  pub class_proper : ¬ IsInterface class

-- a library class that may not: a final one
pub record IsFinalClass (w : List Shape) (c : ℕ) (class : Shape) : Type 0 where
  pub place : slice_get w c ≡ Some class
  pub of_library : class.application ≡ false
  pub final : IsFinal class
  pub class_proper : ¬ IsInterface class

-- ---- the stand-in's own classes

-- the class `any` stands for any object of the class c, which may be extended
abbrev pub IsAnyClassOf : List Shape → ℕ → ℕ → Type 0
IsAnyClassOf w c any = (class : Shape) × IsOpenClass w c class × IsNamed w any (any_name class.name)

-- it stands for any object of some class
abbrev pub IsAnyClass : List Shape → ℕ → Type 0
IsAnyClass w any = (c : ℕ) × IsAnyClassOf w c any

-- the name of a package's class of items, where the package has no name and where it has one
abbrev pub part_name : List ℕ → List ℕ
part_name [] = codes "averroes$part"
part_name (byte ∷ bytes) = (byte ∷ bytes) ++ codes "/averroes$part"

-- a package's class of items
abbrev pub IsPart : Shape → Type 0
IsPart shape = (shape.application ≡ false) × (home : List ℕ) × (shape.name ≡ part_name home)

-- the class of this number is one
abbrev pub IsPartClass : List Shape → ℕ → Type 0
IsPartClass w c = (shape : Shape) × (slice_get w c ≡ Some shape) × IsPart shape

-- the class is one of the stand-in's own: averroes/Library, a class of any object, or a class of items
abbrev pub IsOwnClass : List Shape → ℕ → Type 0
IsOwnClass w c = IsNamed w c library_name ⊎ (IsAnyClass w c ⊎ IsPartClass w c)

-- an item: the stand-in's entry to what the library may do
abbrev pub IsItem : List Shape → MethodId → Type 0
IsItem w m = IsPartClass w m.class.number × HasMethod w m

-- the field of averroes/Library that holds what the library knows
abbrev pub IsKnownField : List Shape → FieldId → Type 0
IsKnownField w f = IsNamed w f.class.number library_name × DeclaresField w known_name object_desc f

-- the one that holds what was only made
abbrev pub IsFreshField : List Shape → FieldId → Type 0
IsFreshField w f = IsNamed w f.class.number library_name × DeclaresField w fresh_name object_desc f

-- ---- collected classes

-- a class or interface that stands in the place of one of the library's
pub record IsCollected (w : List Shape) (c : ℕ) : Type 0 where
  pub of_library : IsLibraryClass w c
  pub no_own : ¬ IsOwnClass w c

-- Throwable, or a proper subclass of it
abbrev pub IsThrowable : List Shape → ℕ → Type 0
IsThrowable w c = (throwable : ℕ) × IsNamed w throwable throwable_name × Sub w c throwable
