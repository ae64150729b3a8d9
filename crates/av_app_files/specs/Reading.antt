-- What the reads of a host leave of it, as defined beside the answers; and what is told where one fails.
use Rattle.std.specs.Prelude.{◌≡◌, ⊤, ℕ, List}
use Rattle.av_program.specs.declared.accept_stop.AcceptStop.{AcceptStop}
use Rattle.av_program.specs.declared.accept_stop.AcceptStop.TheVariants as stops
pub use Rattle.av_program.specs.Answering.{IfStop}
pub use Rattle.av_program.specs.Reads.{HostView, KeepsFiles, Makes, FailsNot, told_name, HasFailed, EndsReading, IsListed, IsFileCall}

-- an answer that tells of the outside alone: a fault of reading, at this name, or want of memory
abbrev pub IsOutside : List ℕ → AcceptStop → Type 0
IsOutside root (stops.Refused refusal) = ⊥
IsOutside root (stops.Limit quantity number) = ⊥
IsOutside root (stops.ReadFault name) = name ≡ root
IsOutside root stops.Memory = ⊤
