-- What the rules of acceptance mean, of the files that a host tells, the roots of the application and the library, and
-- the name of the main class, where one is asked for.
use Rattle.std.specs.Prelude.{ℕ, List, Option, None, Some}
use Rattle.jv_host.specs.declared.host.HostFile.{HostFile}
use Rattle.av_program.specs.declared.accept_stop.AcceptStop.{AcceptStop}
use Rattle.av_program.specs.declared.program.Program.{Program}
use Rattle.av_stops.specs.Calls.{IsCollectedIn}
use Rattle.av_stops.specs.FirstStops.{FirstStop}
use Rattle.av_stops.specs.Programs.{IsAnalysable, IsCheckable, IsProgram}

-- the first refusal or passed limit
abbrev pub FirstStopOf : List HostFile → List ℕ → List ℕ → Option (List ℕ) → AcceptStop → Type 0
FirstStopOf files app lib main = FirstStop (record { files = files; app = app; lib = lib }) main

-- the program, where there is none
abbrev pub ProgramOf : List HostFile → List ℕ → List ℕ → Option (List ℕ) → Program → Type 0
ProgramOf files app lib main = IsProgram (record { files = files; app = app; lib = lib }) main

-- the classes of the library that the application can meet
abbrev pub Collects : List HostFile → List ℕ → List ℕ → List ℕ → Type 0
Collects files app lib = IsCollectedIn (record { files = files; app = app; lib = lib })

-- its stand-in may be made, and with a main it may be analysed
abbrev pub IsAccepted : Option (List ℕ) → Program → Type 0
IsAccepted None program = IsCheckable program
IsAccepted (Some class) program = IsCheckable program × IsAnalysable program
