-- What collection answers: the collected classes with their members, or why they are refused.
use Rattle.std.specs.Prelude.{◌≡◌, ℕ, zero, suc, ◌<◌, ◌++◌, ◌⊎◌, List, [], ◌∷◌, None, Some, map, length, codes, Contains}
use Rattle.std.specs.Ordering.{nat_cmp}
use Rattle.std.specs.Cmp.Lexicographic.{slice_cmp}
use Rattle.std.specs.List.{AllZip}
use Rattle.std.specs.List.Sorted.{IsStrictlySortedBy}
use Rattle.jv_types.specs.declared.shapes.FieldShape.{FieldShape}
use Rattle.jv_types.specs.declared.shapes.MethodShape.{MethodShape}
use Rattle.jv_types.specs.declared.shapes.Shape.{Shape}
use Rattle.jv_world.specs.Refusals.{IsLeastName}
use Rattle.jv_world.specs.Worlds.{NamesSuper}
use Rattle.av_conditions.specs.CoreClasses.{IsAsCore}
use Rattle.av_collected.specs.declared.collected.Collected.{Collected}
use Rattle.av_collected.specs.Dimensions.{AreGreatestDims}
use Rattle.av_collected.specs.Libraries.{LibraryFile, HasFile, HasShape, HasFieldAt, HasMethodAt, IsOfApplication}
use Rattle.av_collected.specs.Naming.{Application}
use Rattle.av_collected.specs.Rules.{ClassNamed, FieldAt, MethodAt, IsCollected}
use Rattle.av_collected.specs.Types.{HasClass, MentionsClass}

-- ---- the collected shapes

-- of a list whose first element stands at this place, just the elements at whose places P holds, in their order
abbrev pub Picks : {X : Type 0} → (ℕ → Type 0) → ℕ → List X → List X → Type 0
Picks P place [] picked = picked ≡ []
Picks {X} P place (x ∷ xs) picked =
    (P place × (rest : List X) × (picked ≡ x ∷ rest) × Picks P (suc place) xs rest) ⊎ (¬ P place × Picks P (suc place) xs picked)

-- the class with its collected members alone, in the order of its file
pub record IsReduced (given : Application) (library : List LibraryFile) (full reduced : Shape) : Type 0 where
  pub name : reduced.name ≡ full.name
  pub flags : reduced.flags ≡ full.flags
  pub parent : reduced.parent ≡ full.parent
  pub interfaces : reduced.interfaces ≡ full.interfaces
  pub application : reduced.application ≡ full.application
  pub fields : Picks (λ place. IsCollected given library (FieldAt full.name place)) zero full.fields reduced.fields
  pub methods : Picks (λ place. IsCollected given library (MethodAt full.name place)) zero full.methods reduced.methods

-- names in rising order of their bytes, each once
abbrev pub AreRising : List (List ℕ) → Type 0
AreRising names = IsStrictlySortedBy (slice_cmp nat_cmp) names

-- The collected classes as their files have them, in order of name; the same with their collected members alone;
-- and the greatest dimension.
pub record AreCollected (given : Application) (library : List LibraryFile) (found : Collected) : Type 0 where
  pub rising : AreRising (map (λ shape. shape.name) found.full)
  pub each : (shape : Shape) → Contains found.full shape → IsCollected given library (ClassNamed shape.name) × HasShape library shape.name shape
  pub all : (name : List ℕ) → IsCollected given library (ClassNamed name) → (shape : Shape) × Contains found.full shape × (shape.name ≡ name)
  pub reduced : AllZip (IsReduced given library) found.full found.shapes
  pub dims : AreGreatestDims given library found.dims

-- ---- refusals

-- a name that no class of a library may have: it begins with `averroes/`, or has `averroes$` in it, or is longer
-- than 60,000 bytes
abbrev pub IsUnfitName : List ℕ → Type 0
IsUnfitName name =
    ((rest : List ℕ) × (name ≡ codes "averroes/" ++ rest))
    ⊎ ((before after : List ℕ) × (name ≡ before ++ codes "averroes$" ++ after))
    ⊎ (60000 < length name)

-- the file is malformed, or has such a name, or is one of the six classes that every world has and isn't as it has
-- to be
abbrev pub IsUnfitFile : LibraryFile → Type 0
IsUnfitFile file = (file.shape ≡ None) ⊎ IsUnfitName file.name ⊎ ((shape : Shape) × (file.shape ≡ Some shape) × ¬ IsAsCore shape)

-- a collected class has such a file (refusal 21)
abbrev pub HasUnfitFile : Application → List LibraryFile → List ℕ → Type 0
HasUnfitFile given library name =
    IsCollected given library (ClassNamed name) × (file : LibraryFile) × Contains library file × (file.name ≡ name) × IsUnfitFile file

-- a collected class has no file (refusal 6)
abbrev pub IsMissing : Application → List LibraryFile → List ℕ → Type 0
IsMissing given library name = IsCollected given library (ClassNamed name) × ¬ HasFile library name

-- a collected class names a class of the application as a supertype, or in the descriptor of a collected member
-- (refusal 7)
pub data NamesApplication (given : Application) (library : List LibraryFile) (class : List ℕ) : Type 0 where
  as_super : (shape : Shape) (name : List ℕ)
      → IsCollected given library (ClassNamed class) → HasShape library class shape → NamesSuper shape name
      → IsOfApplication given.shapes name → NamesApplication given library class
  in_field : (place : ℕ) (field : FieldShape) (name : List ℕ)
      → IsCollected given library (ClassNamed class) → IsCollected given library (FieldAt class place) → HasFieldAt library class place field
      → HasClass field.desc name → IsOfApplication given.shapes name → NamesApplication given library class
  in_method : (place : ℕ) (method : MethodShape) (name : List ℕ)
      → IsCollected given library (ClassNamed class) → IsCollected given library (MethodAt class place) → HasMethodAt library class place method
      → MentionsClass method.desc name → IsOfApplication given.shapes name → NamesApplication given library class

-- no class fails for this cause
abbrev pub NoName : (List ℕ → Type 0) → Type 0
NoName P = (name : List ℕ) → ¬ P name

-- the three refusals in their order, each at the least name; the last says that there is none
abbrev pub FailsForm : Application → List LibraryFile → List ℕ → Type 0
FailsForm given library name = IsLeastName (HasUnfitFile given library) name

abbrev pub FailsThere : Application → List LibraryFile → List ℕ → Type 0
FailsThere given library name = NoName (HasUnfitFile given library) × IsLeastName (IsMissing given library) name

abbrev pub FailsApart : Application → List LibraryFile → List ℕ → Type 0
FailsApart given library name =
    NoName (HasUnfitFile given library) × NoName (IsMissing given library) × IsLeastName (NamesApplication given library) name

abbrev pub FailsNot : Application → List LibraryFile → Type 0
FailsNot given library = NoName (HasUnfitFile given library) × NoName (IsMissing given library) × NoName (NamesApplication given library)

-- ---- the limit

-- more than 8,000 classes are collected
pub record AreTooMany (given : Application) (library : List LibraryFile) : Type 0 where
  pub names : List (List ℕ)
  pub rising : AreRising names
  pub more : 8000 < length names
  pub each : (name : List ℕ) → Contains names name → IsCollected given library (ClassNamed name)
