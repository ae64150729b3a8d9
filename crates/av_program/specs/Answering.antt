-- Which answers fit what comes first.
use Rattle.std.specs.Prelude.{◌≡◌, ⊤, ℕ, Result, Ok, Err}
use Rattle.av_program.specs.declared.accept_stop.AcceptStop.{AcceptStop}
use Rattle.av_program.specs.declared.accept_stop.AcceptStop.TheVariants.{Refused, Limit, ReadFault, Memory}
use Rattle.av_program.specs.declared.program.Program.{Program}

-- a limit
abbrev pub IsLimit : AcceptStop → Type 0
IsLimit (Refused refusal) = ⊥
IsLimit (Limit quantity number) = ⊤
IsLimit (ReadFault name) = ⊥
IsLimit Memory = ⊥

-- Where this comes first, it is the answer; a limit is answered by a limit, since where several pass at one place any of
-- them may be named. A fault of reading and want of memory may come instead.
abbrev pub Fits : AcceptStop → Result Program AcceptStop → Type 0
Fits stop (Ok program) = ⊥
Fits stop (Err (Refused refusal)) = stop ≡ Refused refusal
Fits stop (Err (Limit quantity number)) = IsLimit stop
Fits stop (Err (ReadFault name)) = ⊤
Fits stop (Err Memory) = ⊤

-- an answer that is a refusal or a passed limit is this
abbrev pub IfStop : (AcceptStop → Type 0) → AcceptStop → Type 0
IfStop P (Refused refusal) = P (Refused refusal)
IfStop P (Limit quantity number) = P (Limit quantity number)
IfStop P (ReadFault name) = ⊤
IfStop P Memory = ⊤
