-- What was read of a library, and how it goes with the library that is told.
use Rattle.std.specs.Prelude.{◌≡◌, ℕ, ◌++◌, ⊤, List, [], ◌∷◌, Option, None, Some, map, Contains}
use Rattle.jv_types.specs.declared.shapes.Shape.{Shape}
use Rattle.av_collected.specs.Libraries.{LibraryFile, IsLibrary, IsLibraryShape, HasFile}
use Rattle.av_collected.specs.Rounds.{IsInside}
use Rattle.av_asked.specs.declared.look.Look.{Look}
use Rattle.av_asked.specs.declared.look.Look.TheVariants.{Absent, File}
use Rattle.av_asked.specs.Asking.{AreDistinct, AreStated, IsTold}

-- the library has under the name what was found
abbrev pub HasFound : List LibraryFile → List ℕ → Look → Type 0
HasFound library name Absent = ¬ HasFile library name
HasFound library name (File shape) = (file : LibraryFile) × Contains library file × (file.name ≡ name) × (file.shape ≡ shape)

-- a shape that was found is one that a library may have under the name, and is stated
abbrev pub IsFitShape : (Shape → Type 0) → List ℕ → Option Shape → Type 0
IsFitShape known name None = ⊤
IsFitShape known name (Some shape) = IsLibraryShape name shape × known shape

abbrev pub IsFitLook : (Shape → Type 0) → List ℕ → Look → Type 0
IsFitLook known name Absent = ⊤
IsFitLook known name (File shape) = IsFitShape known name shape

-- the files with what was found under one more name
abbrev pub files_with : List LibraryFile → List ℕ → Look → List LibraryFile
files_with files name Absent = files
files_with files name (File shape) = files ++ (record { name = name; shape = shape }) ∷ []

-- Just what a library has under these names was read; where the library isn't told, each file is one that a library
-- may have.
pub record HasRead (told : Option (List LibraryFile)) (known : Shape → Type 0) (files : List LibraryFile) (names : List (List ℕ)) : Type 0 where
  pub once : AreDistinct names
  pub asked : (file : LibraryFile) → Contains files file → Contains names file.name
  pub apart : AreDistinct (map (λ file. file.name) files)
  pub map : IsLibrary files
  pub stated : AreStated known files
  pub inside : (library : List LibraryFile) → told ≡ Some library → IsInside files library
  pub all : (library : List LibraryFile) → IsTold told library → (file : LibraryFile) → Contains library file → Contains names file.name → Contains files file
