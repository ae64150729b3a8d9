-- What a command sees of the outside, before and after.
use Rattle.std.specs.Prelude.{◌≡◌, ℕ, List, Option}
use Rattle.jv_host.specs.declared.host.HostFile.{HostFile}
use Rattle.jv_host.specs.declared.host.HostCall.{HostCall}
use Rattle.jv_host.specs.Counts.{Rises}
use Rattle.av_outcome.specs.Handing.{SinkState}

-- what a command sees of the outside: the files, where the host tells them, how its count of failed
-- reads moved, the call that failed last, where it tells that, and the printed output
pub record Outside : Type 0 where
  pub files : Option (List HostFile)
  pub reads_before : ℕ
  pub reads_after : ℕ
  pub failed : Option (Option HostCall)
  pub out_before : SinkState
  pub out_after : SinkState

-- nothing was printed
abbrev pub NothingPrinted : Outside → Type 0
NothingPrinted o = o.out_after ≡ o.out_before

-- neither the host's reads nor the printed output failed
pub record IsFaultless (o : Outside) : Type 0 where
  pub reads : ¬ Rises o.reads_before o.reads_after
  pub writes : ¬ Rises o.out_before.faults o.out_after.faults
