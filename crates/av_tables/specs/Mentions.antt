-- Which classes are named by an application and by what was read of a library.
use Rattle.std.specs.Prelude.{◌≡◌, ◌↔◌, ℕ, ◌⊎◌, List, Some, Contains}
use Rattle.std.specs.Ordering.{nat_cmp}
use Rattle.std.specs.Cmp.Lexicographic.{slice_cmp}
use Rattle.jv_types.specs.declared.shapes.Shape.{Shape}
use Rattle.jv_fix.specs.Order.{IsSet}
use Rattle.av_collected.specs.Libraries.{LibraryFile, IsOfLibrary}
use Rattle.av_named.specs.Appending.{OfEach}
use Rattle.av_named.specs.Named.{ShapeNames}

-- a file has the name, or its class names it
abbrev pub FileNames : LibraryFile → List ℕ → Type 0
FileNames file name = (file.name ≡ name) ⊎ ((shape : Shape) × (file.shape ≡ Some shape) × ShapeNames shape name)

-- the name is one of these, or a file has or names it
abbrev pub IsMentioned : List (List ℕ) → List LibraryFile → List ℕ → Type 0
IsMentioned named files name = Contains named name ⊎ OfEach FileNames files name

-- just the names that are mentioned and that the application leaves to the library, each once, in rising order
pub record AreLibraryNames (app : List Shape) (named : List (List ℕ)) (files : List LibraryFile) (names : List (List ℕ)) : Type 0 where
  pub set : IsSet (slice_cmp nat_cmp) names
  pub exact : (name : List ℕ) → Contains names name ↔ (IsMentioned named files name × IsOfLibrary app name)
