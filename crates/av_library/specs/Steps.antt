-- What only private functions say.
use Rattle.std.specs.Prelude.{⊤, ◌≤◌, ℕ, List, None, length}
use Rattle.jv_types.specs.declared.shapes.Shape.{Shape}
use Rattle.av_collected.specs.declared.found.ShapeFound.{ShapeFound}
use Rattle.av_collected.specs.declared.found.ShapeFound.TheVariants as answers
use Rattle.av_app_files.specs.FileRules.{most_file_bytes}
use Rattle.av_stops.specs.LibraryFolders.{IsClassOf, IsWorth}

-- the bytes are not more than a class file may have, and malformed as the file of the class of this name
pub record IsBadFile (name bytes : List ℕ) : Type 0 where
  pub short : length bytes ≤ most_file_bytes
  pub malformed : IsWorth name bytes None

-- the answer is what the bytes are worth as the file of the class of this name, or a limit
abbrev pub IsFoundIn : List ℕ → List ℕ → ShapeFound → Type 0
IsFoundIn name bytes (answers.Shape shape) = IsClassOf name bytes shape
IsFoundIn name bytes answers.Malformed = IsBadFile name bytes
IsFoundIn name bytes answers.Absent = ⊥
IsFoundIn name bytes (answers.TooMuch quantity) = ⊤
