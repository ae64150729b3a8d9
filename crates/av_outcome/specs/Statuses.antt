-- The numbers with which the process ends.
use Rattle.std.specs.Prelude.{ℕ}
use Rattle.av_outcome.specs.declared.status.Status.{Status}
use Rattle.av_outcome.specs.declared.status.Status.TheVariants.{Done, Refused, Usage, ReadFault, WriteFault, Limit, Memory}

-- the number with which the process ends
abbrev pub code_of : Status → ℕ
code_of Done = 0
code_of Refused = 1
code_of Usage = 2
code_of ReadFault = 3
code_of WriteFault = 4
code_of Limit = 5
code_of Memory = 6
