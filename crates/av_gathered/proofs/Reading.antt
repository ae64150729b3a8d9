-- Which reads collection over a source makes of a host, and how they end.
use Rattle.std.proofs.Common.{◌≡◌, ◌≤◌, inl, inr, ℕ, Bool, true, false, List, [], ◌∷◌, ◌++◌, Option, Some, None, option_map, IfSome, Result, Ok, Err, Contains, bytes_eq, refl, sym, ap, subst, ◌∙◌}
use Rattle.std.proofs.Math.Seq.{drop-append_seam}
use Rattle.std.proofs.lemmas.Slice.Eq.{bytes_eq-Decides}
use Rattle.std.proofs.lemmas.List.Elements.{All-contains_itself, All-weaker, Contains-push}
use Rattle.jv_host.specs.declared.host.HostCall.{HostCall}
use Rattle.jv_host.specs.declared.host.HostFile.{HostFile}
use Rattle.jv_host.specs.Counts.{Rises}
use Rattle.av_collected.specs.declared.collected.Collected.{Collected}
use Rattle.av_collected.specs.declared.stop.CollectStop.{CollectStop}
use Rattle.av_collected.specs.declared.stop.CollectStop.TheVariants as collecting
use Rattle.av_collected.specs.Libraries.{LibraryFile}
use Rattle.av_collected.specs.Naming.{Application}
use Rattle.av_collected.specs.Rules.{ClassNamed, IsCollected}
use Rattle.av_collected.specs.Sources.{Kept}
use Rattle.av_asked.specs.Asking.{IsTold, added}
use Rattle.av_closure.specs.Answered.{OnFailed, UnlessFailed}
use Rattle.av_program.specs.declared.accept_stop.AcceptStop.{AcceptStop}
use Rattle.av_program.specs.Reads.{EndsReading, FailedAt, FailsNot, HasFailed, HostView, KeepsFiles, Makes, file_of}
use Rattle.av_stops.specs.LibraryFolders.{IsLibraryIn}
use Rattle.av_library.specs.History.{IsReadOf, read_of}
use Rattle.av_library.specs.Told.{library_in}
use Rattle.av_load.specs.Answers.{Reads}
use Rattle.av_stages.specs.Stages.{IsClassCall}
use Rattle.av_gathered.specs.Steps.{answer_of, is_told_by}
use Rattle.av_gathered.proofs.Folder.{AreLibraries}

-- ---- all that was added where nothing stood before

pub added_all : (old new : List (List ℕ)) → old ≡ [] → added old new ≡ new
added_all old new e = ap (λ (l : List (List ℕ)). added l new) e ∙ drop-append_seam [] new

-- ---- what collection answered, and what became of the host

pub record Ran (given : Application) (told : Option (List HostFile)) (lib : List ℕ) (asked : List (List ℕ)) (made : List HostCall) (failed : Option (List ℕ)) (before after : HostView)
    (result : Result Collected CollectStop) : Type 0 where
  pub collected : (library : List LibraryFile) → IsTold (option_map (λ files. library_in files lib) told) library → (name : List ℕ) → Contains asked name → IsCollected given library (ClassNamed name)
  pub reads : (call : HostCall) → Contains made call → IsReadOf asked lib call
  pub called : after.calls ≡ option_map (λ earlier. earlier ++ made) before.calls
  pub kept : KeepsFiles before after
  pub counted : OnFailed result (Rises before.read_faults after.read_faults)
  pub faults_kept : UnlessFailed result (after.read_faults ≡ before.read_faults)
  pub failed_last : OnFailed result ((name : List ℕ) × Contains asked name × (failed ≡ Some name))
  pub failed_not : UnlessFailed result (failed ≡ None)
  pub failed_is : (name : List ℕ) → failed ≡ Some name → IfSome after.failed (λ last. last ≡ Some (read_of lib name))
  pub failed_kept : failed ≡ None → after.failed ≡ before.failed

module _ (given : Application) (told : Option (List HostFile)) (lib : List ℕ) (libraries : AreLibraries) where
  read_may : (asked : List (List ℕ)) → ((library : List LibraryFile) → IsTold (option_map (λ files. library_in files lib) told) library → (name : List ℕ) → Contains asked name → IsCollected given library (ClassNamed name))
      → (call : HostCall) → IsReadOf asked lib call → IsClassCall told lib given call
  read_may asked collected call read = record { name = read.name; is = read.is; collected = by told collected }
    where
      by : (told : Option (List HostFile)) → ((library : List LibraryFile) → IsTold (option_map (λ files. library_in files lib) told) library → (name : List ℕ) → Contains asked name → IsCollected given library (ClassNamed name))
          → IfSome told (λ files. (app : List ℕ) → (library : List LibraryFile) × IsLibraryIn (record { files = files; app = app; lib = lib }) library × IsCollected given library (ClassNamed read.name))
      by None collected = tt
      by (Some files) collected = λ app. (library_in files lib, libraries files app lib, collected (library_in files lib) (record { told = refl; map = (libraries files app lib).is_library }) read.name read.among)

  -- the file that is named is that of the last read that failed
  failed_at : (file name : List ℕ) (last : Option (Option HostCall)) → is_told_by (Some file) last ≡ true → IfSome last (λ call. call ≡ Some (read_of lib name)) → IsClassCall told lib given (read_of lib name)
      → IfSome last (FailedAt (IsClassCall told lib given) file)
  failed_at file name None named is may = tt
  failed_at file name (Some last) named is may =
      (read_of lib name, is, may, sym ((bytes_eq-Decides file (file_of name)).0 (subst (λ (call : Option HostCall). is_told_by (Some file) (Some call) ≡ true) is named)))

  has_failed : (asked : List (List ℕ)) (made : List HostCall) (failed : Option (List ℕ)) (before after : HostView) (file : List ℕ) → is_told_by (Some file) after.failed ≡ true
      → Ran given told lib asked made failed before after (Err collecting.Failed) → HasFailed (IsClassCall told lib given) before after file
  has_failed asked made failed before after file named ran =
      let last = ran.failed_last in
      record {
        counted = ran.counted;
        told = failed_at file last.0 after.failed named (ran.failed_is last.0 last.2) (read_may asked ran.collected (read_of lib last.0) (record { name = last.0; among = last.1; is = refl }));
      }

  ends : (asked : List (List ℕ)) (made : List HostCall) (failed : Option (List ℕ)) (before after : HostView) (result : Result Collected CollectStop) (file : Option (List ℕ)) → is_told_by file after.failed ≡ true
      → Ran given told lib asked made failed before after result → EndsReading (IsClassCall told lib given) before after (answer_of result file)
  ends asked made failed before after (Ok found) file named ran = record { read_faults = ran.faults_kept; failed = ran.failed_kept ran.failed_not }
  ends asked made failed before after (Err (collecting.LibraryForm name)) file named ran = record { read_faults = ran.faults_kept; failed = ran.failed_kept ran.failed_not }
  ends asked made failed before after (Err (collecting.Missing name)) file named ran = record { read_faults = ran.faults_kept; failed = ran.failed_kept ran.failed_not }
  ends asked made failed before after (Err (collecting.NamesApplication name)) file named ran = record { read_faults = ran.faults_kept; failed = ran.failed_kept ran.failed_not }
  ends asked made failed before after (Err (collecting.Limit quantity)) file named ran = record { read_faults = ran.faults_kept; failed = ran.failed_kept ran.failed_not }
  ends asked made failed before after (Err collecting.Failed) None named ran = tt
  ends asked made failed before after (Err collecting.Failed) (Some file) named ran = has_failed asked made failed before after file named ran
  ends asked made failed before after (Err collecting.Memory) file named ran = tt

  pub reads_of : (asked : List (List ℕ)) (made : List HostCall) (failed : Option (List ℕ)) (before after : HostView) (result : Result Collected CollectStop) (file : Option (List ℕ)) (answer : Result Collected AcceptStop)
      → answer ≡ answer_of result file → is_told_by file after.failed ≡ true → Ran given told lib asked made failed before after result → Reads (IsClassCall told lib given) before after answer
  reads_of asked made failed before after result file answer is named ran = record {
    kept = ran.kept;
    makes = record {
      made = made;
      each = All-weaker (Contains made) (IsClassCall told lib given) (λ call among. read_may asked ran.collected call (ran.reads call among)) made (All-contains_itself made);
      told = ran.called;
    };
    ends = subst (λ (a : Result Collected AcceptStop). EndsReading (IsClassCall told lib given) before after a) (sym is) (ends asked made failed before after result file named ran);
  }
