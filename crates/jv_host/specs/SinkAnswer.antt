-- What follows a call of a sink.
use Rattle.std.specs.Prelude.{⊤, ℕ, List, [], ◌∷◌, Option, option_map, Result, Ok, Err}
use Rattle.jv_host.specs.Counts.{one_more}
use Rattle.jv_host.specs.declared.sink.SinkFault.{SinkFault}
use Rattle.jv_host.specs.declared.sink.SinkFault.TheVariants.{Failed, Memory}

-- a fact that holds where a call answered `Failed`
abbrev pub OnSinkFailed : {T : Type 0} → Result T SinkFault → Type 0 → Type 0
OnSinkFailed (Ok _) P = ⊤
OnSinkFailed (Err Failed) P = P
OnSinkFailed (Err Memory) P = ⊤

-- a fact that holds where a call answered anything but `Failed`
abbrev pub UnlessSinkFailed : {T : Type 0} → Result T SinkFault → Type 0 → Type 0
UnlessSinkFailed (Ok _) P = P
UnlessSinkFailed (Err Failed) P = ⊤
UnlessSinkFailed (Err Memory) P = P

-- a fact that holds where a call answered `Memory`
abbrev pub OnSinkLacking : {T : Type 0} → Result T SinkFault → Type 0 → Type 0
OnSinkLacking (Ok _) P = ⊤
OnSinkLacking (Err Failed) P = ⊤
OnSinkLacking (Err Memory) P = P

-- a fact that holds where a call answered anything but `Memory`
abbrev pub UnlessSinkLacking : {T : Type 0} → Result T SinkFault → Type 0 → Type 0
UnlessSinkLacking (Ok _) P = P
UnlessSinkLacking (Err Failed) P = P
UnlessSinkLacking (Err Memory) P = ⊤

-- how many empty pieces were handed over, where it is told, after this piece more
abbrev pub blanks_after : List ℕ → Option ℕ → Option ℕ
blanks_after [] blanks = option_map one_more blanks
blanks_after (_ ∷ _) blanks = blanks
