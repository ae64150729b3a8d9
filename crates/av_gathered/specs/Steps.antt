-- What only private functions say.
use Rattle.std.specs.Prelude.{ℕ, Bool, true, false, List, Option, None, Some, Result, Ok, Err, bytes_eq}
use Rattle.jv_host.specs.declared.host.HostCall.{HostCall}
use Rattle.jv_host.specs.declared.host.HostCall.TheVariants as calls
use Rattle.av_collected.specs.declared.collected.Collected.{Collected}
use Rattle.av_collected.specs.declared.stop.CollectStop.{CollectStop}
use Rattle.av_program.specs.declared.accept_stop.AcceptStop.{AcceptStop}
use Rattle.av_stages.specs.Stages.{stop_of}

-- the call reads the file of this name
abbrev pub reads_file : List ℕ → Option HostCall → Bool
reads_file file None = false
reads_file file (Some (calls.ReadFile root name most)) = bytes_eq file name
reads_file file (Some (calls.ListRoot root most)) = false
reads_file file (Some (calls.WriteFile root name)) = false

-- no file is named, or the last call that failed read that one, where a host tells it
abbrev pub is_told_by : Option (List ℕ) → Option (Option HostCall) → Bool
is_told_by None told = true
is_told_by (Some file) None = true
is_told_by (Some file) (Some call) = reads_file file call

-- the answer of acceptance to one of collection, where this is the file whose read failed
abbrev pub answer_of : Result Collected CollectStop → Option (List ℕ) → Result Collected AcceptStop
answer_of (Ok found) file = Ok found
answer_of (Err stop) file = Err (stop_of stop file)
