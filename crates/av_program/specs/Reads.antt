-- What the reads of a host leave of it, and which reads the acceptance of an application makes.
use Rattle.std.specs.Prelude.{◌≡◌, ◌≤◌, ◌++◌, ◌||◌, ℕ, ⊤, Bool, false, List, Option, Some, Result, Ok, Err, IfSome, option_map, All, Contains, codes, nat_eq}
use Rattle.std.specs.List.{ends_with}
use Rattle.std.specs.Cmp.Lexicographic.{pointwise}
use Rattle.jv_host.specs.declared.host.HostCall.{HostCall}
use Rattle.jv_host.specs.declared.host.HostCall.TheVariants as calls
use Rattle.jv_host.specs.declared.host.HostFile.{HostFile}
use Rattle.jv_host.specs.Counts.{Rises}
use Rattle.jv_host.specs.Files.{class_names}
use Rattle.av_program.specs.declared.accept_stop.AcceptStop.{AcceptStop}
use Rattle.av_program.specs.declared.accept_stop.AcceptStop.TheVariants as stops

-- what a host tells of itself: its files, what was written, the calls that answered, the last one that failed, and how
-- often reads and writes failed
pub record HostView : Type 0 where
  pub files : Option (List HostFile)
  pub written : Option (List HostFile)
  pub calls : Option (List HostCall)
  pub failed : Option (Option HostCall)
  pub read_faults : ℕ
  pub write_faults : ℕ

-- it is as it was, but that reads may have failed
pub record KeepsFiles (before after : HostView) : Type 0 where
  pub files : after.files ≡ before.files
  pub written : after.written ≡ before.written
  pub write_faults : after.write_faults ≡ before.write_faults
  pub never_falls : before.read_faults ≤ after.read_faults

-- Calls were made, each one that may be made. A host that tells its calls has them behind those before.
pub record Makes (May : HostCall → Type 0) (before after : HostView) : Type 0 where
  pub made : List HostCall
  pub each : All May made
  pub told : after.calls ≡ option_map (λ earlier. earlier ++ made) before.calls

-- no read failed
pub record FailsNot (before after : HostView) : Type 0 where
  pub read_faults : after.read_faults ≡ before.read_faults
  pub failed : after.failed ≡ before.failed

-- the name by which a fault of a call is told: that of the file, or the root that was listed
abbrev pub told_name : HostCall → List ℕ
told_name (calls.ListRoot root most) = root
told_name (calls.ReadFile root name most) = name
told_name (calls.WriteFile root name) = name

-- the call that failed last is one that may be made, and is told by this name
abbrev pub FailedAt : (HostCall → Type 0) → List ℕ → Option HostCall → Type 0
FailedAt May name failed = (call : HostCall) × (failed ≡ Some call) × May call × (told_name call ≡ name)

-- A read failed, and is told by this name, where the host tells which call failed last.
pub record HasFailed (May : HostCall → Type 0) (before after : HostView) (name : List ℕ) : Type 0 where
  pub counted : Rises before.read_faults after.read_faults
  pub told : IfSome after.failed (FailedAt May name)

-- A fault of reading is answered only where a read failed, and every other answer but want of memory only where none
-- did.
abbrev pub EndsReading : {T : Type 0} → (HostCall → Type 0) → HostView → HostView → Result T AcceptStop → Type 0
EndsReading May before after (Ok value) = FailsNot before after
EndsReading May before after (Err (stops.Refused refusal)) = FailsNot before after
EndsReading May before after (Err (stops.Limit quantity number)) = FailsNot before after
EndsReading May before after (Err (stops.ReadFault name)) = HasFailed May before after name
EndsReading May before after (Err stops.Memory) = ⊤

-- ---- which reads are made

-- the file of the class of this name
abbrev pub file_of : List ℕ → List ℕ
file_of class = class ++ codes ".class"

-- a file that declares a module, in any folder: it is passed over
abbrev pub is_module_info : List ℕ → Bool
is_module_info name = pointwise nat_eq name (codes "module-info.class") || ends_with nat_eq name (codes "/module-info.class")

-- as many bytes as show whether a file is longer than a class file may be
abbrev pub most_read : ℕ
most_read = 16777217

-- the name is one of those that are listed under a root, where the files are told, and isn't passed over
pub record IsListed (told : Option (List HostFile)) (root name : List ℕ) : Type 0 where
  pub counts : is_module_info name ≡ false
  pub listed : IfSome told (λ files. Contains (class_names files root) name)

-- The calls by which the files of an application are read: the list of its root, and reads of listed files, under its
-- root and under that of the library.
pub data IsFileCall (told : Option (List HostFile)) (app lib : List ℕ) (call : HostCall) : Type 0 where
  of_list : call ≡ calls.ListRoot app 20001 → IsFileCall told app lib call
  of_app : (name : List ℕ) (most : ℕ) → call ≡ calls.ReadFile app name most → most ≤ most_read → IsListed told app name
      → IsFileCall told app lib call
  of_lib : (name : List ℕ) (most : ℕ) → call ≡ calls.ReadFile lib name most → most ≤ most_read → IsListed told app name
      → IsFileCall told app lib call

-- The calls by which an application is accepted: besides, reads of the files of the library classes that it can meet.
pub data IsAcceptCall (told : Option (List HostFile)) (collects : List HostFile → List ℕ → Type 0) (app lib : List ℕ) (call : HostCall) : Type 0 where
  of_files : IsFileCall told app lib call → IsAcceptCall told collects app lib call
  of_class : (name : List ℕ) (most : ℕ) → call ≡ calls.ReadFile lib (file_of name) most → most ≤ most_read
      → IfSome told (λ files. collects files name) → IsAcceptCall told collects app lib call
