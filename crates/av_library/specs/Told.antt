-- The library that the files of a host are, as a list. The law of it is that it is the library in the folder.
use Rattle.std.specs.Prelude.{ℕ, ◌-◌, Bool, ◌&&◌, false, not, ◌⊎◌, leb, List, [], Option, None, Some, length, take, map, filter, unwrap_or, bytes_eq, if◌then◌else◌}
use mathlib.Core.Logic.{inl, inr}
use Rattle.jv_types.specs.declared.shapes.Shape.{Shape}
use Rattle.jv_host.specs.declared.host.HostFile.{HostFile}
use Rattle.jv_host.specs.Files.{bytes_of, class_names}
use Rattle.jv_class.specs.declared.class_file.ClassFile.{ClassFile}
use Rattle.jv_stated.proofs.Classes.{IsTextDecided, decided}
use Rattle.jv_stated.proofs.ShapeLemmas.{shape_made}
use Rattle.av_collected.specs.Libraries.{LibraryFile}
use Rattle.av_app_files.specs.Folders.{is_module_info, file_of}
use Rattle.av_app_files.specs.FileRules.{most_file_bytes}

-- the class whose file has this name, which ends in the six bytes `.class`
abbrev pub class_of : List ℕ → List ℕ
class_of file = take (length file - 6) file

-- the shape of the class that the bytes are the text of, where its version and name and the length are right
abbrev pub fitting : List ℕ → List ℕ → ClassFile → Shape → Option Shape
fitting name bytes class shape =
    if leb (length bytes) most_file_bytes && (leb 45 class.major && (leb class.major 52 && bytes_eq shape.name name)) then Some shape else None

abbrev pub worth_by : (name bytes : List ℕ) → IsTextDecided bytes → Option Shape
worth_by name bytes (inl text) = fitting name bytes text.0 (shape_made text.0 false text.1.is_class).0
worth_by name bytes (inr none) = None

-- what the bytes are worth as the file of the class of this name: the shape that they state, or none where they are
-- malformed
unfoldable pub worth : List ℕ → List ℕ → Option Shape
worth name bytes = worth_by name bytes (decided bytes)

-- what the library has under the name of a class
abbrev pub entry : List HostFile → List ℕ → List ℕ → LibraryFile
entry files root class = record { name = class; shape = worth class (unwrap_or (bytes_of files root (file_of class)) []) }

-- what it has under each name of a class file that counts
unfoldable pub library_in : List HostFile → List ℕ → List LibraryFile
library_in files root = map (λ file. entry files root (class_of file)) (filter (λ file. not (is_module_info file)) (class_names files root))
