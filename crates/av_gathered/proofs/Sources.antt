-- What is known of a source after collection, told of the host and the folder that it began with.
use Rattle.std.proofs.Common.{◌≡◌, ◌≤◌, ◌++◌, ◌∷◌, ℕ, List, [], Option, Some, option_map, Result, Ok, Err, Contains, sym, ap, subst, ◌∙◌}
use Rattle.std.proofs.lemmas.List.Elements.{Contains-push}
use Rattle.jv_types.specs.declared.quantity.Quantity.{Quantity}
use Rattle.jv_types.specs.declared.shapes.Shape.{Shape}
use Rattle.jv_host.specs.declared.host.HostCall.{HostCall}
use Rattle.jv_host.specs.declared.host.HostFile.{HostFile}
use Rattle.av_collected.specs.declared.collected.Collected.{Collected}
use Rattle.av_collected.specs.declared.method_body.MethodBody.{MethodBody}
use Rattle.av_collected.specs.declared.stop.CollectStop.{CollectStop}
use Rattle.av_collected.specs.declared.stop.CollectStop.TheVariants as collecting
use Rattle.av_collected.specs.Naming.{Application}
use Rattle.av_asked.specs.Asking.{application}
use Rattle.av_collected.specs.Sources.{Kept}
use Rattle.av_program.specs.declared.accept_stop.AcceptStop.{AcceptStop}
use Rattle.av_program.specs.Reads.{HostView, KeepsFiles}
use Rattle.av_closure.specs.Answered.{OnFailed, UnlessFailed}
use Rattle.av_load.specs.Answers.{Reads}
use Rattle.av_library.specs.Told.{library_in}
use Rattle.av_gathered.proofs.Folder.{IsRun}

pub application_is : (shapes shapes' : List Shape) (maps maps' : List (List ℕ)) (bodies bodies' : List MethodBody) → shapes ≡ shapes' → maps ≡ maps' → bodies ≡ bodies'
    → application shapes maps bodies ≡ application shapes' maps' bodies'
application_is shapes shapes' maps maps' bodies bodies' s m b = λ i. record { shapes = s i; maps = m i; bodies = b i }

pub run_is : (given given' : Application) (told told' : Option (List HostFile)) (lib lib' : List ℕ) (asked asked' names names' : List (List ℕ)) (passed : Option Quantity) (result : Result Collected CollectStop)
    → given ≡ given' → told ≡ told' → lib ≡ lib' → asked ≡ asked' → names ≡ names'
    → IsRun given (option_map (λ files. library_in files lib) told) asked names passed result → IsRun given' (option_map (λ files. library_in files lib') told') asked' names' passed result
run_is given given' told told' lib lib' asked asked' names names' passed result g t l a n run =
    subst (λ (x : Application). IsRun x (option_map (λ files. library_in files lib') told') asked' names' passed result) g
    (subst (λ (x : Option (List HostFile)). IsRun given (option_map (λ files. library_in files lib') x) asked' names' passed result) t
    (subst (λ (x : List ℕ). IsRun given (option_map (λ files. library_in files x) told) asked' names' passed result) l
    (subst (λ (x : List (List ℕ)). IsRun given (option_map (λ files. library_in files lib) told) x names' passed result) a
    (subst (λ (x : List (List ℕ)). IsRun given (option_map (λ files. library_in files lib) told) asked x passed result) n run))))

-- the last name that was asked for is among those that were
pub last_asked : (result : Result Collected CollectStop) (asked asked' : List (List ℕ)) (failed : Option (List ℕ)) → asked ≡ asked'
    → OnFailed result ((before : List (List ℕ)) × (name : List ℕ) × (asked ≡ before ++ name ∷ []) × (failed ≡ Some name)) → OnFailed result ((name : List ℕ) × Contains asked' name × (failed ≡ Some name))
last_asked (Ok found) asked asked' failed same h = tt
last_asked (Err (collecting.LibraryForm name)) asked asked' failed same h = tt
last_asked (Err (collecting.Missing name)) asked asked' failed same h = tt
last_asked (Err (collecting.NamesApplication name)) asked asked' failed same h = tt
last_asked (Err (collecting.Limit quantity)) asked asked' failed same h = tt
last_asked (Err collecting.Failed) asked asked' failed same h =
    (h.1, subst (λ (l : List (List ℕ)). Contains l h.1) (sym h.2 ∙ same) (Contains-push h.0 h.1), h.3)
last_asked (Err collecting.Memory) asked asked' failed same h = tt

-- none failed at the start, and so none has
pub none_failed : {X : Type 0} (result : Result Collected CollectStop) (x y z : X) → y ≡ z → UnlessFailed result (x ≡ y) → UnlessFailed result (x ≡ z)
none_failed (Ok found) x y z e h = h ∙ e
none_failed (Err (collecting.LibraryForm name)) x y z e h = h ∙ e
none_failed (Err (collecting.Missing name)) x y z e h = h ∙ e
none_failed (Err (collecting.NamesApplication name)) x y z e h = h ∙ e
none_failed (Err (collecting.Limit quantity)) x y z e h = h ∙ e
none_failed (Err collecting.Failed) x y z e h = tt
none_failed (Err collecting.Memory) x y z e h = h ∙ e

-- ---- hosts

abbrev pub view_of : {X : Type 0} → (X → Option (List HostFile)) → (X → Option (List HostFile)) → (X → Option (List HostCall)) → (X → Option (Option HostCall)) → (X → ℕ) → (X → ℕ) → X → HostView
view_of files written calls failed read_faults write_faults host =
    record { files = files host; written = written host; calls = calls host; failed = failed host; read_faults = read_faults host; write_faults = write_faults host }

module _ {X : Type 0} (files written : X → Option (List HostFile)) (calls : X → Option (List HostCall)) (failed : X → Option (Option HostCall)) (read_faults write_faults : X → ℕ) where
  abbrev kept_of : X → List ℕ → Kept
  kept_of host root = record { write_faults = write_faults host; root = root; files = files host; written = written host }

  pub keeps : (first old new : X) (root root' : List ℕ) → old ≡ first → kept_of new root' ≡ kept_of old root
      → read_faults old ≤ read_faults new → KeepsFiles (view_of files written calls failed read_faults write_faults first) (view_of files written calls failed read_faults write_faults new)
  keeps first old new root root' same kept never =
      subst (λ (x : X). KeepsFiles (view_of files written calls failed read_faults write_faults x) (view_of files written calls failed read_faults write_faults new)) same
      (record { files = ap (λ (k : Kept). k.files) kept; written = ap (λ (k : Kept). k.written) kept; write_faults = ap (λ (k : Kept). k.write_faults) kept; never_falls = never })

  pub reads_to : (May : HostCall → Type 0) (before : HostView) (new last : X) (answer : Result Collected AcceptStop) → last ≡ new
      → Reads May before (view_of files written calls failed read_faults write_faults new) answer → Reads May before (view_of files written calls failed read_faults write_faults last) answer
  reads_to May before new last answer same reads = subst (λ (x : X). Reads May before (view_of files written calls failed read_faults write_faults x) answer) (sym same) reads
