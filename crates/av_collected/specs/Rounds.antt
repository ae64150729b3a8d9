-- A part of a library: what was read of it so far.
use Rattle.std.specs.Prelude.{List, Contains}
use Rattle.av_collected.specs.Libraries.{LibraryFile}
use Rattle.av_collected.specs.Naming.{Application}
use Rattle.av_collected.specs.Rules.{ClassNamed, IsCollected}

-- what the one library has, the other has
abbrev pub IsInside : List LibraryFile → List LibraryFile → Type 0
IsInside part library = (file : LibraryFile) → Contains part file → Contains library file

-- Over the part just the files of the library were read that belong to classes that are collected over the part.
pub record IsReadOut (given : Application) (part library : List LibraryFile) : Type 0 where
  pub inside : IsInside part library
  pub all : (file : LibraryFile) → Contains library file → IsCollected given part (ClassNamed file.name) → Contains part file
  pub only : (file : LibraryFile) → Contains part file → IsCollected given part (ClassNamed file.name)
