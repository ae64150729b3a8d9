-- Applications, and libraries, that are the same but for the order in which their parts are written down.
use Rattle.std.specs.Prelude.{◌≡◌, ◌↔◌, ℕ, List, Contains}
use Rattle.av_collected.specs.declared.method_body.MethodBody.{MethodBody}
use Rattle.av_collected.specs.Libraries.{LibraryFile}
use Rattle.av_collected.specs.Naming.{Application}

-- the same shapes in their order, and the same bodies and names from stack maps in any
pub record IsSameApplication (one other : Application) : Type 0 where
  pub shapes : one.shapes ≡ other.shapes
  pub bodies : (method : MethodBody) → Contains one.bodies method ↔ Contains other.bodies method
  pub maps : (text : List ℕ) → Contains one.maps text ↔ Contains other.maps text

-- the same files in any order
abbrev pub IsSameLibrary : List LibraryFile → List LibraryFile → Type 0
IsSameLibrary one other = (file : LibraryFile) → Contains one file ↔ Contains other file
