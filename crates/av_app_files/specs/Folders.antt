-- The two folders of a run, and the files of the application in them.
use Rattle.std.specs.Prelude.{◌≡◌, ℕ, false, List, Some, map, Contains}
use Rattle.std.specs.Ordering.{nat_cmp}
use Rattle.std.specs.Cmp.Lexicographic.{slice_cmp}
use Rattle.std.specs.List.Sorted.{IsStrictlySortedBy}
use Rattle.jv_host.specs.declared.host.HostFile.{HostFile}
use Rattle.jv_host.specs.Files.{bytes_of, class_names}
pub use Rattle.av_program.specs.Reads.{file_of, is_module_info}

-- what a host tells of its files, and the roots of the application and of the library
pub record Folders : Type 0 where
  pub files : List HostFile
  pub app : List ℕ
  pub lib : List ℕ

-- a file of the application: its name under the root, and its bytes
pub record Source : Type 0 where
  pub name : List ℕ
  pub bytes : List ℕ

-- it is listed, is not passed over, and has these bytes
pub record IsSource (folders : Folders) (source : Source) : Type 0 where
  pub listed : Contains (class_names folders.files folders.app) source.name
  pub counts : is_module_info source.name ≡ false
  pub has : bytes_of folders.files folders.app source.name ≡ Some source.bytes

-- just the files of the application, in order of their names' bytes
pub record AreSources (folders : Folders) (sources : List Source) : Type 0 where
  pub rising : IsStrictlySortedBy (slice_cmp nat_cmp) (map (λ source. source.name) sources)
  pub each : (source : Source) → Contains sources source → IsSource folders source
  pub all : (source : Source) → IsSource folders source → Contains sources source
