-- How far the files of an application are loaded.
use Rattle.std.specs.Prelude.{◌≡◌, ◌≤◌, ◌↔◌, ◌++◌, ℕ, false, List, [], ◌∷◌, Option, None, Some, true, if◌then◌else◌, map, length, take, nat_eq, Contains}
use Rattle.std.specs.List.{IsDistinct, flat_map}
use Rattle.std.specs.Cmp.Lexicographic.{pointwise}
use Rattle.jv_types.specs.declared.quantity.Quantity.TheVariants as quantities
use Rattle.jv_types.specs.declared.rule.Rule.{Rule}
use Rattle.jv_types.specs.declared.refusal.RulePlace.TheVariants as places
use Rattle.jv_types.specs.Quantities.{quantity_limit}
use Rattle.jv_host.specs.declared.host.HostCall.{HostCall}
use Rattle.jv_host.specs.declared.host.HostCall.TheVariants as calls
use Rattle.jv_host.specs.declared.host.HostFile.{HostFile}
use Rattle.jv_host.specs.Files.{bytes_of, class_names}
use Rattle.jv_class.specs.declared.class_file.ClassFile.{ClassFile}
use Rattle.jv_class.specs.ClassTexts.{ClassText}
use Rattle.jv_class.specs.Shapes.{IsShapeOf}
use Rattle.av_program.specs.declared.accept_stop.AcceptStop.{AcceptStop}
use Rattle.av_program.specs.declared.accept_stop.AcceptStop.TheVariants as stops
use Rattle.av_program.specs.Reads.{file_of, is_module_info, most_read}
use Rattle.av_app_files.specs.Folders.{Folders, Source}
use Rattle.av_app_files.specs.FileRules.{AreLoaded, FailsFile, HasManyFiles, HasOtherName, HasReservedName, HasWrongVersion, IsInBoth, IsStopAt, bytes_in}
use Rattle.av_app_files.specs.Counting.{IsCounted}
use Rattle.av_load.specs.declared.app_class.AppClass.{AppClass}
use Rattle.av_load.specs.Answers.{InFolders}
use Rattle.av_load.specs.Classes.{IsAppClass}

-- ---- a file and its rules

-- the refusal of a file by a rule
abbrev pub refusal_of : Rule → List ℕ → AcceptStop
refusal_of rule name = stops.Refused (record { rule = rule; place = places.File name })

-- it is the refusal of a file by a rule, which is due, or memory was wanting
pub data IsFileRefusal (Due : Type 0) (rule : Rule) (name : List ℕ) (stop : AcceptStop) : Type 0 where
  refused : stop ≡ refusal_of rule name → Due → IsFileRefusal Due rule name stop
  lacking : stop ≡ stops.Memory → IsFileRefusal Due rule name stop

-- the file is refused by a rule that it fails, and none before it
abbrev pub IsRefusedFile : Folders → Source → AcceptStop → Type 0
IsRefusedFile folders source stop = (rule : Rule) × (stop ≡ refusal_of rule source.name) × FailsFile folders source rule

-- the class keeps the rules on it and its file
pub record KeepsRules (told : Option (List HostFile)) (lib file : List ℕ) (class : ClassFile) : Type 0 where
  pub version : ¬ HasWrongVersion class
  pub named : ¬ HasOtherName class file
  pub alone : (app : List ℕ) → InFolders told app lib (λ folders. ¬ IsInBoth folders file)
  pub free : ¬ HasReservedName class

-- this is the first of them that fails
abbrev pub FailsRule : Option (List HostFile) → List ℕ → List ℕ → ClassFile → Rule → Type 0
FailsRule told lib file class rule =
    (app bytes : List ℕ) → ClassText class bytes → InFolders told app lib (λ folders. FailsFile folders (record { name = file; bytes = bytes }) rule)

-- which of them fails first, if one does
abbrev pub IsJudged : Option (List HostFile) → List ℕ → List ℕ → ClassFile → Option Rule → Type 0
IsJudged told lib file class None = KeepsRules told lib file class
IsJudged told lib file class (Some rule) = FailsRule told lib file class rule

-- the class of a file with these bytes, which keeps the rules
pub record IsLoadedFrom (told : Option (List HostFile)) (lib file bytes : List ℕ) (class : AppClass) : Type 0 where
  pub text : ClassText class.file bytes
  pub keeps : KeepsRules told lib file class.file
  pub shape : IsShapeOf class.file true class.shape

-- ---- names and their files

-- the file of a name, if it has bytes
abbrev pub with_bytes : List ℕ → Option (List ℕ) → List Source
with_bytes name None = []
with_bytes name (Some bytes) = record { name = name; bytes = bytes } ∷ []

-- the file of the application of this name, if it is one
abbrev pub source_of : Folders → List ℕ → List Source
source_of folders name = if is_module_info name then [] else with_bytes name (bytes_of folders.files folders.app name)

-- those of these names, in their order
abbrev pub sources_of : Folders → List (List ℕ) → List Source
sources_of folders names = flat_map (source_of folders) names

-- what is read of the file of a name: nothing where it is passed over, or its bytes, and one more than a class file
-- may have at most
abbrev pub IsNextBytes : Folders → List ℕ → Option (List ℕ) → Type 0
IsNextBytes folders name None = source_of folders name ≡ []
IsNextBytes folders name (Some bytes) =
    (whole : List ℕ) × (source_of folders name ≡ record { name = name; bytes = whole } ∷ []) × (bytes ≡ take 16777217 whole)

-- ---- a step of the loading

-- the classes and the count of bytes after the file of a name: as before where it is passed over, or with its class
pub data IsNext (told : Option (List HostFile)) (app lib name : List ℕ) (old new : List AppClass) (old_bytes new_bytes : ℕ) : Type 0 where
  passed_over : new ≡ old → new_bytes ≡ old_bytes → InFolders told app lib (λ folders. source_of folders name ≡ [])
      → IsNext told app lib name old new old_bytes new_bytes
  loaded : (class : AppClass) (bytes : List ℕ) → new ≡ old ++ class ∷ [] → IsCounted old_bytes (length bytes) new_bytes
      → IsLoadedFrom told lib name bytes class
      → InFolders told app lib (λ folders. source_of folders name ≡ record { name = name; bytes = bytes } ∷ [])
      → IsNext told app lib name old new old_bytes new_bytes

-- the stop at the file of a name
abbrev pub StopsAtName : Folders → ℕ → List ℕ → AcceptStop → Type 0
StopsAtName folders before name stop = (source : Source) × (source_of folders name ≡ source ∷ []) × IsStopAt folders before source stop

-- a read of the file of a name that isn't passed over, under either root
pub data IsReadOf (app lib name : List ℕ) (call : HostCall) : Type 0 where
  of_app : (most : ℕ) → call ≡ calls.ReadFile app name most → most ≤ most_read → is_module_info name ≡ false → IsReadOf app lib name call
  of_lib : (most : ℕ) → call ≡ calls.ReadFile lib name most → most ≤ most_read → is_module_info name ≡ false → IsReadOf app lib name call

-- ---- several files

-- a read of the file of one of these names
abbrev pub IsReadAmong : List ℕ → List ℕ → List (List ℕ) → HostCall → Type 0
IsReadAmong app lib names call = (name : List ℕ) × Contains names name × IsReadOf app lib name call

-- the files of these names are loaded, and have so many bytes together
pub record AreLoadedSoFar (folders : Folders) (names : List (List ℕ)) (classes : List ClassFile) (bytes : ℕ) : Type 0 where
  pub loaded : AreLoaded folders (sources_of folders names) classes
  pub counted : bytes ≡ bytes_in (sources_of folders names)

-- the stop at the first of the files of these names that has one
pub record StopsAmong (folders : Folders) (names : List (List ℕ)) (stop : AcceptStop) : Type 0 where
  pub before : List (List ℕ)
  pub name : List ℕ
  pub after : List (List ℕ)
  pub split : names ≡ before ++ name ∷ after
  pub classes : List ClassFile
  pub loaded : AreLoaded folders (sources_of folders before) classes
  pub stops : StopsAtName folders (bytes_in (sources_of folders before)) name stop

-- classes of files of these names, whatever the host tells
pub record AreOwn (names : List (List ℕ)) (classes : List AppClass) : Type 0 where
  pub few : length classes ≤ length names
  pub each : (class : AppClass) → Contains classes class → IsAppClass class
  pub named : (class : AppClass) → Contains classes class → Contains names (file_of class.shape.name)
  pub distinct : IsDistinct (pointwise nat_eq) (map (λ class. class.shape.name) classes)

-- the files of all names but for those that are left are loaded
pub record IsUnderway (told : Option (List HostFile)) (app lib : List ℕ) (all left : List (List ℕ)) (classes : List AppClass) (bytes : ℕ) : Type 0 where
  pub done : List (List ℕ)
  pub split : all ≡ done ++ left
  pub so_far : InFolders told app lib (λ folders. AreLoadedSoFar folders done (map (λ class. class.file) classes) bytes)
  pub own : AreOwn done classes

-- ---- all names

-- just the names that are listed, no more than an application may have files
pub record AreAllNames (folders : Folders) (names : List (List ℕ)) : Type 0 where
  pub few : ¬ HasManyFiles folders
  pub listed : (name : List ℕ) → Contains names name ↔ Contains (class_names folders.files folders.app) name

-- the stop at the list of names
abbrev pub StopsAtList : Folders → AcceptStop → Type 0
StopsAtList folders stop = (stop ≡ stops.Limit quantities.Files (quantity_limit quantities.Files)) × HasManyFiles folders
