-- How the command ends that says of the methods of an application that they verify.
use Rattle.std.specs.Prelude.{◌≡◌, ◌⊎◌, ⊤, ℕ, List, Option, Some, None, IfSome}
use Rattle.jv_types.specs.declared.shapes.Shape.{Shape}
use Rattle.jv_host.specs.declared.host.HostFile.{HostFile}
use Rattle.jv_host.specs.declared.host.HostCall.{HostCall}
use Rattle.jv_host.specs.Counts.{Rises}
use Rattle.av_program.specs.declared.accept_stop.AcceptStop.{AcceptStop}
use Rattle.av_program.specs.declared.accept_stop.AcceptStop.TheVariants as stop
use Rattle.av_program.specs.declared.program.Program.{Program}
use Rattle.av_program.specs.Reads.{FailedAt}
use Rattle.av_acceptor.specs.Accepting.{IsNeeded}
use Rattle.av_verified.specs.Lines.{AreVerifiedLines}
use Rattle.av_outcome.specs.declared.outcome.Outcome.{Outcome}
use Rattle.av_outcome.specs.declared.outcome.Outcome.TheVariants.{Done, Refused, Usage, ReadFault, WriteFault, Limit, Memory}
use Rattle.av_outcome.specs.Handing.{SinkState, Takes, TakesFront, AreCountsKept, text_of_lines}
use Rattle.av_cli.specs.Outside.{Outside, NothingPrinted}

-- ---- what is printed

-- the text of the lines of a world's application, each of whose methods with code has one
abbrev pub IsTextOf : List Shape → List ℕ → Type 0
IsTextOf world text = (lines : List (List ℕ)) × AreVerifiedLines world lines × (text ≡ text_of_lines lines)

-- what an outcome says of the printed output, where a program with this world is accepted
abbrev pub Prints : List Shape → SinkState → SinkState → Outcome → Type 0
Prints world old new Done = (text : List ℕ) × IsTextOf world text × Takes old new text × AreCountsKept old new
Prints world old new WriteFault = (text : List ℕ) × IsTextOf world text × TakesFront old new text × Rises old.faults new.faults
Prints world old new Memory = (new ≡ old) ⊎ ((text : List ℕ) × IsTextOf world text × TakesFront old new text)
Prints world old new (Refused refusal) = ⊥
Prints world old new Usage = ⊥
Prints world old new (ReadFault name) = ⊥
Prints world old new (Limit quantity number) = ⊥

-- the text is that of an accepted program, which is the program of the files where they are told
pub record IsVerified (makes : List HostFile → Program → Type 0) (accepted : Program → Type 0) (files : Option (List HostFile)) (text : List ℕ) : Type 0 where
  pub program : Program
  pub is_accepted : accepted program
  pub made : IfSome files (λ told. makes told program)
  pub is_text : IsTextOf program.world text

-- ---- what an outcome says

-- this comes first in the files, where they are told, and no read failed
abbrev pub IsStopped : (List HostFile → AcceptStop → Type 0) → Outside → AcceptStop → Type 0
IsStopped stops o s = IfSome o.files (λ told. stops told s) × (o.reads_after ≡ o.reads_before) × NothingPrinted o

-- what an outcome says of the files, of the host's reads and of the printed output
abbrev pub Concludes : (List HostFile → AcceptStop → Type 0) → (List ℕ → Type 0) → (List ℕ → Option HostCall → Type 0) → Outside → Outcome → Type 0
-- all lines were printed, and neither a read nor a print failed
Concludes stops verified failed_at o Done =
    (text : List ℕ) × verified text × Takes o.out_before o.out_after text × AreCountsKept o.out_before o.out_after × (o.reads_after ≡ o.reads_before)
Concludes stops verified failed_at o (Refused refusal) = IsStopped stops o (stop.Refused refusal)
Concludes stops verified failed_at o (Limit quantity number) = IsStopped stops o (stop.Limit quantity number)
-- a list or a read failed
Concludes stops verified failed_at o (ReadFault name) = Rises o.reads_before o.reads_after × IfSome o.failed (failed_at name) × NothingPrinted o
-- the printed output failed behind a front of the lines
Concludes stops verified failed_at o WriteFault =
    (text : List ℕ) × verified text × TakesFront o.out_before o.out_after text × Rises o.out_before.faults o.out_after.faults × (o.reads_after ≡ o.reads_before)
-- nothing was printed, or a front of the lines
Concludes stops verified failed_at o Memory =
    NothingPrinted o ⊎ ((text : List ℕ) × verified text × TakesFront o.out_before o.out_after text)
Concludes stops verified failed_at o Usage = ⊥

-- ---- which outcome comes

-- the outcome that the files determine, where no read fails: what comes first in them, or that all is printed, where
-- nothing does and no print fails
abbrev pub IsDue : (AcceptStop → Type 0) → Outside → Outcome → Type 0
IsDue stops o Done = ((s : AcceptStop) → ¬ stops s) × (¬ Rises o.out_before.faults o.out_after.faults)
IsDue stops o (Refused refusal) = stops (stop.Refused refusal)
IsDue stops o (Limit quantity number) = stops (stop.Limit quantity number)
IsDue stops o Usage = ⊥
IsDue stops o (ReadFault name) = ⊥
IsDue stops o WriteFault = ⊥
IsDue stops o Memory = ⊥

abbrev pub IsLimitOutcome : Outcome → Type 0
IsLimitOutcome Done = ⊥
IsLimitOutcome (Refused refusal) = ⊥
IsLimitOutcome Usage = ⊥
IsLimitOutcome (ReadFault name) = ⊥
IsLimitOutcome WriteFault = ⊥
IsLimitOutcome (Limit quantity number) = ⊤
IsLimitOutcome Memory = ⊥

-- it is that one, or for a limit one that passes too, unless memory is wanting
abbrev pub Settles : Outcome → Outcome → Type 0
Settles due outcome = (outcome ≡ due) ⊎ (outcome ≡ Memory) ⊎ (IsLimitOutcome due × IsLimitOutcome outcome)

-- How the command ended, by what an acceptor means: the first stop of files, their program, the classes that are
-- collected, and what holds of each accepted program.
pub record VerifyEnds (first_stop : List HostFile → List ℕ → List ℕ → Option (List ℕ) → AcceptStop → Type 0)
    (program_of : List HostFile → List ℕ → List ℕ → Option (List ℕ) → Program → Type 0)
    (collects : List HostFile → List ℕ → List ℕ → List ℕ → Type 0) (is_accepted : Option (List ℕ) → Program → Type 0)
    (app lib : List ℕ) (o : Outside) (outcome : Outcome) : Type 0 where
  pub concludes : Concludes (λ told. first_stop told app lib None)
      (IsVerified (λ told. program_of told app lib None) (is_accepted None) o.files)
      (FailedAt (IsNeeded collects o.files app lib)) o outcome
  pub exact : (told : List HostFile) → o.files ≡ Some told → ¬ Rises o.reads_before o.reads_after → (due : Outcome)
      → IsDue (first_stop told app lib None) o due → Settles due outcome
