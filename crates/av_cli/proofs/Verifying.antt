-- What an acceptor answers, and what is printed then, make an end of the command.
use Rattle.std.proofs.Common.{◌≡◌, ℕ, inl, inr, List, Option, Some, None, Result, Err, refl, sym, ap, ◌∙◌, subst}
use Rattle.std.specs.Prelude.{IfSome}
use Rattle.jv_host.specs.declared.host.HostFile.{HostFile}
use Rattle.jv_host.specs.declared.host.HostCall.{HostCall}
use Rattle.jv_host.specs.Counts.{Rises}
use Rattle.av_program.specs.declared.accept_stop.AcceptStop.{AcceptStop}
use Rattle.av_program.specs.declared.accept_stop.AcceptStop.TheVariants as stop
use Rattle.av_program.specs.declared.program.Program.{Program}
use Rattle.av_program.specs.Answering.{Fits}
use Rattle.av_program.specs.Reads.{EndsReading, FailedAt, HostView, Makes}
use Rattle.av_acceptor.specs.Accepting.{IsNeeded, Tells}
use Rattle.av_outcome.specs.declared.outcome.Outcome.{Outcome}
use Rattle.av_outcome.specs.declared.outcome.Outcome.TheVariants.{Done, Refused, Usage, ReadFault, WriteFault, Limit, Memory}
use Rattle.av_outcome.specs.Handing.{SinkState}
use Rattle.av_outcome.specs.Outcomes.{outcome_of_stop}
use Rattle.av_cli.specs.Outside.{Outside, NothingPrinted}
use Rattle.av_cli.specs.Verifying.{Prints, IsDue, Settles, VerifyEnds}

-- a fact of the files, where they are told
at_told : (files : Option (List HostFile)) (told : List HostFile) (P : List HostFile → Type 0) → files ≡ Some told → IfSome files P → P told
at_told files told P e h = subst (λ (f : Option (List HostFile)). IfSome f P) e h

-- the calls that are needed for two folders, whose names are these
same_needed : (collects : List HostFile → List ℕ → List ℕ → List ℕ → Type 0) (files : Option (List HostFile)) (a b c d : List ℕ) → a ≡ b → c ≡ d
    → IsNeeded collects files a c ≡ IsNeeded collects files b d
same_needed collects files a b c d p q = ap (λ (x : List ℕ). IsNeeded collects files x c) p ∙ ap (λ (x : List ℕ). IsNeeded collects files b x) q

pub makes_for : (collects : List HostFile → List ℕ → List ℕ → List ℕ → Type 0) (files : Option (List HostFile)) (before after : HostView)
    (a b c d : List ℕ) → a ≡ b → c ≡ d → Makes (IsNeeded collects files a c) before after → Makes (IsNeeded collects files b d) before after
makes_for collects files before after a b c d p q h =
    subst (λ (May : HostCall → Type 0). Makes May before after) (same_needed collects files a b c d p q) h

pub ends_for : (result : Result Program AcceptStop) (collects : List HostFile → List ℕ → List ℕ → List ℕ → Type 0) (files : Option (List HostFile))
    (before after : HostView) (a b c d : List ℕ) → a ≡ b → c ≡ d
    → EndsReading (IsNeeded collects files a c) before after result → EndsReading (IsNeeded collects files b d) before after result
ends_for result collects files before after a b c d p q h =
    subst (λ (May : HostCall → Type 0). EndsReading May before after result) (same_needed collects files a b c d p q) h

-- what a command sees of a host and of its output
abbrev pub outside_of : HostView → HostView → SinkState → SinkState → Outside
outside_of before after printed_before printed_after = record {
  files = before.files;
  reads_before = before.read_faults;
  reads_after = after.read_faults;
  failed = after.failed;
  out_before = printed_before;
  out_after = printed_after;
}

module _ (first_stop : List HostFile → List ℕ → List ℕ → Option (List ℕ) → AcceptStop → Type 0)
    (program_of : List HostFile → List ℕ → List ℕ → Option (List ℕ) → Program → Type 0)
    (collects : List HostFile → List ℕ → List ℕ → List ℕ → Type 0) (is_accepted : Option (List ℕ) → Program → Type 0)
    (app lib : List ℕ) (o : Outside) where
  -- where this came first, no other outcome is due
  settles_refused : (refusal : _) (told : List HostFile) → first_stop told app lib None (stop.Refused refusal)
      → ((s : AcceptStop) → first_stop told app lib None s → s ≡ stop.Refused refusal)
      → (due : Outcome) → IsDue (first_stop told app lib None) o due → Settles due (Refused refusal)
  settles_refused refusal told first only Done is = absurd (is.0 (stop.Refused refusal) first)
  settles_refused refusal told first only (Refused other) is = inl (ap outcome_of_stop (sym (only (stop.Refused other) is)))
  settles_refused refusal told first only (Limit quantity number) is =
      let e : stop.Limit quantity number ≡ stop.Refused refusal = only (stop.Limit quantity number) is in absurd cc
  settles_refused refusal told first only Usage is = absurd is
  settles_refused refusal told first only (ReadFault name) is = absurd is
  settles_refused refusal told first only WriteFault is = absurd is
  settles_refused refusal told first only Memory is = absurd is

  settles_limit : (quantity : _) (number : ℕ) (told : List HostFile) → first_stop told app lib None (stop.Limit quantity number)
      → ((s : AcceptStop) → first_stop told app lib None s → Fits s (Err (stop.Limit quantity number)))
      → (due : Outcome) → IsDue (first_stop told app lib None) o due → Settles due (Limit quantity number)
  settles_limit quantity number told first only Done is = absurd (is.0 (stop.Limit quantity number) first)
  settles_limit quantity number told first only (Refused other) is = absurd (only (stop.Refused other) is)
  settles_limit quantity number told first only (Limit q n) is = inr (inr (tt, tt))
  settles_limit quantity number told first only Usage is = absurd is
  settles_limit quantity number told first only (ReadFault name) is = absurd is
  settles_limit quantity number told first only WriteFault is = absurd is
  settles_limit quantity number told first only Memory is = absurd is

  -- an application that isn't accepted
  refused_ends : (refusal : _) → IfSome o.files (λ told. first_stop told app lib None (stop.Refused refusal))
      → IfSome o.files (λ told. (t : AcceptStop) → first_stop told app lib None t → t ≡ stop.Refused refusal)
      → o.reads_after ≡ o.reads_before → NothingPrinted o → VerifyEnds first_stop program_of collects is_accepted app lib o (Refused refusal)
  refused_ends refusal tells exact kept silent = record {
    concludes = (tells, kept, silent);
    exact = λ told e calm due is. settles_refused refusal told (at_told o.files told _ e tells) (at_told o.files told _ e exact) due is;
  }

  limit_ends : (quantity : _) (number : ℕ) → IfSome o.files (λ told. first_stop told app lib None (stop.Limit quantity number))
      → IfSome o.files (λ told. (t : AcceptStop) → first_stop told app lib None t → Fits t (Err (stop.Limit quantity number)))
      → o.reads_after ≡ o.reads_before → NothingPrinted o → VerifyEnds first_stop program_of collects is_accepted app lib o (Limit quantity number)
  limit_ends quantity number tells exact kept silent = record {
    concludes = (tells, kept, silent);
    exact = λ told e calm due is. settles_limit quantity number told (at_told o.files told _ e tells) (at_told o.files told _ e exact) due is;
  }

  fault_ends : (name : List ℕ) → Rises o.reads_before o.reads_after → IfSome o.failed (FailedAt (IsNeeded collects o.files app lib) name)
      → NothingPrinted o → VerifyEnds first_stop program_of collects is_accepted app lib o (ReadFault name)
  fault_ends name counted failed silent = record {
    concludes = (counted, failed, silent);
    exact = λ told e calm due is. absurd (calm counted);
  }

  memory_ends : NothingPrinted o → VerifyEnds first_stop program_of collects is_accepted app lib o Memory
  memory_ends silent = record { concludes = inl silent; exact = λ told e calm due is. inr (inl refl) }

  -- nothing stops an application that is accepted
  settles_done : (told : List HostFile) → ((s : AcceptStop) → first_stop told app lib None s → ⊥)
      → (due : Outcome) → IsDue (first_stop told app lib None) o due → Settles due Done
  settles_done told none Done is = inl refl
  settles_done told none (Refused refusal) is = absurd (none (stop.Refused refusal) is)
  settles_done told none (Limit quantity number) is = absurd (none (stop.Limit quantity number) is)
  settles_done told none Usage is = absurd is
  settles_done told none (ReadFault name) is = absurd is
  settles_done told none WriteFault is = absurd is
  settles_done told none Memory is = absurd is

  settles_fault : (told : List HostFile) → ((s : AcceptStop) → first_stop told app lib None s → ⊥) → Rises o.out_before.faults o.out_after.faults
      → (due : Outcome) → IsDue (first_stop told app lib None) o due → Settles due WriteFault
  settles_fault told none rises Done is = absurd (is.1 rises)
  settles_fault told none rises (Refused refusal) is = absurd (none (stop.Refused refusal) is)
  settles_fault told none rises (Limit quantity number) is = absurd (none (stop.Limit quantity number) is)
  settles_fault told none rises Usage is = absurd is
  settles_fault told none rises (ReadFault name) is = absurd is
  settles_fault told none rises WriteFault is = absurd is
  settles_fault told none rises Memory is = absurd is

  module _ (program : Program) (accepted : is_accepted None program) (made : IfSome o.files (λ told. program_of told app lib None program))
      (none : IfSome o.files (λ told. (s : AcceptStop) → first_stop told app lib None s → ⊥)) (kept : o.reads_after ≡ o.reads_before) where
    -- the lines of an accepted program
    pub printed : (outcome : Outcome) → Prints program.world o.out_before o.out_after outcome
        → VerifyEnds first_stop program_of collects is_accepted app lib o outcome
    printed Done p = record {
      concludes = (p.0, record { program = program; is_accepted = accepted; made = made; is_text = p.1 }, p.2, p.3, kept);
      exact = λ told e calm due is. settles_done told (at_told o.files told _ e none) due is;
    }
    printed WriteFault p = record {
      concludes = (p.0, record { program = program; is_accepted = accepted; made = made; is_text = p.1 }, p.2, p.3, kept);
      exact = λ told e calm due is. settles_fault told (at_told o.files told _ e none) p.3 due is;
    }
    printed Memory (inl silent) = record { concludes = inl silent; exact = λ told e calm due is. inr (inl refl) }
    printed Memory (inr p) = record {
      concludes = inr (p.0, record { program = program; is_accepted = accepted; made = made; is_text = p.1 }, p.2);
      exact = λ told e calm due is. inr (inl refl);
    }
    printed (Refused refusal) p = absurd p
    printed Usage p = absurd p
    printed (ReadFault name) p = absurd p
    printed (Limit quantity number) p = absurd p

-- an application that isn't accepted, by what the host tells of itself before and after
pub stopped : (first_stop : List HostFile → List ℕ → List ℕ → Option (List ℕ) → AcceptStop → Type 0)
    (program_of : List HostFile → List ℕ → List ℕ → Option (List ℕ) → Program → Type 0)
    (collects : List HostFile → List ℕ → List ℕ → List ℕ → Type 0) (is_accepted : Option (List ℕ) → Program → Type 0)
    (app lib : List ℕ) (before after : HostView) (sink : SinkState) (s : AcceptStop)
    → IfSome before.files (λ told. Tells (program_of told app lib None) (first_stop told app lib None) (Err s))
    → IfSome before.files (λ told. (t : AcceptStop) → first_stop told app lib None t → Fits t (Err s))
    → EndsReading {T = Program} (IsNeeded collects before.files app lib) before after (Err s)
    → VerifyEnds first_stop program_of collects is_accepted app lib (outside_of before after sink sink) (outcome_of_stop s)
stopped fs po co ia app lib before after sink (stop.Refused refusal) tells exact ends =
    refused_ends fs po co ia app lib (outside_of before after sink sink) refusal tells exact ends.read_faults refl
stopped fs po co ia app lib before after sink (stop.Limit quantity number) tells exact ends =
    limit_ends fs po co ia app lib (outside_of before after sink sink) quantity number tells exact ends.read_faults refl
stopped fs po co ia app lib before after sink (stop.ReadFault name) tells exact ends =
    fault_ends fs po co ia app lib (outside_of before after sink sink) name ends.counted ends.told refl
stopped fs po co ia app lib before after sink stop.Memory tells exact ends =
    memory_ends fs po co ia app lib (outside_of before after sink sink) refl
