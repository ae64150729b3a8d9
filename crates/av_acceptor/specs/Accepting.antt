-- What the answers of an acceptor say of the files of a host.
use Rattle.std.specs.Prelude.{◌≡◌, ⊤, ℕ, List, Option, Result, Ok, Err}
use Rattle.jv_host.specs.declared.host.HostFile.{HostFile}
use Rattle.jv_host.specs.declared.host.HostCall.{HostCall}
use Rattle.av_program.specs.declared.accept_stop.AcceptStop.{AcceptStop}
use Rattle.av_program.specs.declared.accept_stop.AcceptStop.TheVariants.{Refused, Limit, ReadFault, Memory}
use Rattle.av_program.specs.declared.program.Program.{Program}
use Rattle.av_program.specs.Reads.{IsAcceptCall}

-- what an answer says of the files: that they make this program, or that this comes first
abbrev pub Tells : (Program → Type 0) → (AcceptStop → Type 0) → Result Program AcceptStop → Type 0
Tells makes stops (Ok program) = makes program
Tells makes stops (Err (Refused refusal)) = stops (Refused refusal)
Tells makes stops (Err (Limit quantity number)) = stops (Limit quantity number)
Tells makes stops (Err (ReadFault name)) = ⊤
Tells makes stops (Err Memory) = ⊤

-- A call that acceptance needs: the list of the application's root, a read of a file of a listed name under either
-- root, and one of the file of a collected class under the library's.
abbrev pub IsNeeded : (List HostFile → List ℕ → List ℕ → List ℕ → Type 0) → Option (List HostFile) → List ℕ → List ℕ → HostCall → Type 0
IsNeeded collects told app lib = IsAcceptCall told (λ files. collects files app lib) app lib
