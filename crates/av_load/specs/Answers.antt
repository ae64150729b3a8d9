-- What holds of the folders that a host tells, which answers fit what stops there, and which reads are made.
use Rattle.std.specs.Prelude.{◌≡◌, ⊤, ℕ, List, Option, Result, Ok, Err, IfSome}
use Rattle.jv_host.specs.declared.host.HostCall.{HostCall}
use Rattle.jv_host.specs.declared.host.HostFile.{HostFile}
use Rattle.av_program.specs.declared.accept_stop.AcceptStop.{AcceptStop}
use Rattle.av_program.specs.declared.accept_stop.AcceptStop.TheVariants.{Refused, Limit, ReadFault, Memory}
use Rattle.av_program.specs.Reads.{EndsReading, HostView, KeepsFiles, Makes}
use Rattle.av_app_files.specs.Folders.{Folders}

-- it holds of these two folders, where a host tells its files
abbrev pub InFolders : Option (List HostFile) → List ℕ → List ℕ → (Folders → Type 0) → Type 0
InFolders told app lib P = IfSome told (λ files. P (record { files = files; app = app; lib = lib }))

-- Where loading stops so, it is the answer. A fault of reading and want of memory may come instead.
abbrev pub FitsFiles : {T : Type 0} → AcceptStop → Result T AcceptStop → Type 0
FitsFiles stop (Ok value) = ⊥
FitsFiles stop (Err (Refused refusal)) = stop ≡ Refused refusal
FitsFiles stop (Err (Limit quantity number)) = stop ≡ Limit quantity number
FitsFiles stop (Err (ReadFault name)) = ⊤
FitsFiles stop (Err Memory) = ⊤

-- Reads of a host that may be made, and no others: what they leave of it, which were made, and how they ended.
pub record Reads {T : Type 0} (May : HostCall → Type 0) (before after : HostView) (result : Result T AcceptStop) : Type 0 where
  pub kept : KeepsFiles before after
  pub makes : Makes May before after
  pub ends : EndsReading May before after result
