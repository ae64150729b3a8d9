-- Which reads of a host the acceptance of an application makes.
use Rattle.std.specs.Prelude.{ℕ, List, Option}
use Rattle.jv_host.specs.declared.host.HostCall.{HostCall}
use Rattle.jv_host.specs.declared.host.HostFile.{HostFile}
use Rattle.jv_class.specs.declared.class_file.ClassFile.{ClassFile}
use Rattle.av_collected.specs.Libraries.{LibraryFile}
use Rattle.av_collected.specs.Naming.{Application}
use Rattle.av_collected.specs.Rules.{ClassNamed, IsCollected}
use Rattle.av_program.specs.Reads as reads
use Rattle.av_app_files.specs.Folders.{Folders}
use Rattle.av_stops.specs.FirstStops.{IsRead}

-- a class of this name is collected from the library
pub record IsCollectedIn (folders : Folders) (name : List ℕ) : Type 0 where
  pub classes : List ClassFile
  pub given : Application
  pub library : List LibraryFile
  pub is_read : IsRead folders classes given library
  pub collected : IsCollected given library (ClassNamed name)

-- those that the acceptance of an application makes
abbrev pub IsAcceptCall : Option (List HostFile) → List ℕ → List ℕ → HostCall → Type 0
IsAcceptCall told app lib = reads.IsAcceptCall told (λ files. IsCollectedIn (record { files = files; app = app; lib = lib })) app lib
