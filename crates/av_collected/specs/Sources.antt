-- What a source of shapes tells and keeps, and what an answer of it means.
use Rattle.std.specs.Prelude.{◌≡◌, ℕ, ◌↔◌, ⊤, List, [], ◌∷◌, ◌++◌, Option, None, Some, Result, Ok, Err, Contains}
use Rattle.jv_types.specs.declared.quantity.Quantity.{Quantity}
use Rattle.jv_types.specs.declared.shapes.Shape.{Shape}
use Rattle.jv_host.specs.declared.host.HostFault.{HostFault}
use Rattle.jv_host.specs.declared.host.HostFile.{HostFile}
use Rattle.av_collected.specs.declared.found.ShapeFound.{ShapeFound}
use Rattle.av_collected.specs.declared.found.ShapeFound.TheVariants as answers
use Rattle.av_collected.specs.Libraries.{LibraryFile, IsLibraryShape, HasFile, HasShape}

-- what no call of a source changes of the host below it: its count of failed writes, the root of the library, its
-- files and what was written to it, where it tells them
pub record Kept : Type 0 where
  pub write_faults : ℕ
  pub root : List ℕ
  pub files : Option (List HostFile)
  pub written : Option (List HostFile)

-- what the library has under the name is malformed
abbrev pub IsMalformed : List LibraryFile → List ℕ → Type 0
IsMalformed library name = (file : LibraryFile) × Contains library file × (file.name ≡ name) × (file.shape ≡ None)

-- the library has under the name what the answer says
abbrev pub Says : List LibraryFile → List ℕ → ShapeFound → Type 0
Says library name (answers.Shape shape) = HasShape library name shape
Says library name answers.Malformed = IsMalformed library name
Says library name answers.Absent = ¬ HasFile library name
Says library name (answers.TooMuch quantity) = ⊤

-- a shape that is answered is one that a library may have under the name, and is stated
abbrev pub IsFit : (Shape → Type 0) → List ℕ → ShapeFound → Type 0
IsFit stated name (answers.Shape shape) = IsLibraryShape name shape × stated shape
IsFit stated name answers.Malformed = ⊤
IsFit stated name answers.Absent = ⊤
IsFit stated name (answers.TooMuch quantity) = ⊤

-- the names whose calls were not refused, after one more call
abbrev pub answered_after : Result ShapeFound HostFault → List ℕ → List (List ℕ) → List (List ℕ)
answered_after (Ok found) name answered = answered ++ name ∷ []
answered_after (Err fault) name answered = answered

-- a quantity that has passed is answered, and no other answer comes then
abbrev pub TellsPassed : ShapeFound → Option Quantity → Type 0
TellsPassed found passed = (quantity : Quantity) → (found ≡ answers.TooMuch quantity) ↔ (passed ≡ Some quantity)
