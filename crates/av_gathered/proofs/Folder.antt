-- What collection answers over a source is what the folder of the library gives.
use Rattle.std.proofs.Common.{◌≡◌, ◌≢◌, ◌<◌, ◌⊎◌, inl, inr, ℕ, Bool, true, false, List, [], ◌∷◌, ◌++◌, sum_by, Option, Some, None, option_map, IfSome, IfOk, IfErr, Result, Ok, Err, Contains, refl, sym, subst, ◌∙◌, arith}
use Rattle.std.specs.List.{list_any}
use Rattle.std.specs.Prelude.{◌↔◌}
use Rattle.std.proofs.lemmas.List.Elements.{Contains-append_left}
use Rattle.jv_types.specs.declared.quantity.Quantity.{Quantity}
use Rattle.jv_types.specs.declared.quantity.Quantity.TheVariants as quantities
use Rattle.jv_types.specs.declared.refusal.RulePlace.TheVariants as places
use Rattle.jv_types.specs.declared.rule.Rule.TheVariants as rules
use Rattle.jv_host.specs.declared.host.HostFile.{HostFile}
use Rattle.av_collected.specs.declared.collected.Collected.{Collected}
use Rattle.av_collected.specs.declared.stop.CollectStop.{CollectStop}
use Rattle.av_collected.specs.declared.stop.CollectStop.TheVariants as collecting
use Rattle.av_collected.specs.Answers.{AreCollected, AreTooMany, FailsApart, FailsForm, FailsNot, FailsThere}
use Rattle.av_collected.specs.Libraries.{IsLibrary, LibraryFile}
use Rattle.av_collected.specs.Naming.{Application}
use Rattle.av_collected.specs.Rules.{ClassNamed, IsCollected}
use Rattle.av_collected.proofs.Lists.{in_tail}
use Rattle.av_asked.specs.Asking.{AreDistinct, AreThose, AskedPast, IsTold}
use Rattle.av_closure.specs.Answered.{AreOverRead, WhereAnswered, WhereEnded}
use Rattle.av_program.specs.declared.accept_stop.AcceptStop.{AcceptStop}
use Rattle.av_program.specs.Answering.{IfStop}
use Rattle.av_app_files.specs.Folders.{Folders}
use Rattle.av_stops.specs.CollectedRules.{FailsCollection, by_file, by_form, by_names}
use Rattle.av_stops.specs.LibraryFolders.{IsLibraryIn, IsStated, PassesLimit, PassesNoLimit}
use Rattle.av_library.specs.Counting.{PassNone, PassesBy, is_long, most_library_bytes, size_of}
use Rattle.av_library.specs.Told.{library_in}
use Rattle.av_load.specs.Answers.{InFolders}
use Rattle.av_stages.specs.Stages.{IsCollectedFrom, IsCollectedOfSome, StopsCollecting, at_collected, at_limit, stop_of}
use Rattle.av_gathered.specs.Steps.{answer_of}

-- ---- the laws

abbrev pub AreLibraries : Type 0
AreLibraries = (files : List HostFile) (app lib : List ℕ) → IsLibraryIn (record { files = files; app = app; lib = lib }) (library_in files lib)

abbrev pub PassingIsLimit : Type 0
PassingIsLimit = (folders : Folders) (given : Application) (library : List LibraryFile) (names : List (List ℕ)) (quantity : Quantity)
    → AreDistinct names → ((name : List ℕ) → Contains names name → IsCollected given library (ClassNamed name))
    → PassesBy folders.files folders.lib names quantity → PassesLimit folders given library quantity

abbrev pub NonePasses : Type 0
NonePasses = (folders : Folders) (given : Application) (library : List LibraryFile) (names : List (List ℕ))
    → AreThose (λ name. IsCollected given library (ClassNamed name)) names → PassNone folders.files folders.lib names
    → ¬ AreTooMany given library → PassesNoLimit folders given library

-- ---- what collection answered over a source, and what the source told

pub record IsRun (given : Application) (told : Option (List LibraryFile)) (asked names : List (List ℕ)) (passed : Option Quantity) (result : Result Collected CollectStop) : Type 0 where
  pub collected : IfOk result (λ found. (library : List LibraryFile) → IsTold told library → AreCollected given library found)
  pub fit : IfOk result (λ found. (library : List LibraryFile) → IsTold told library → FailsNot given library)
  pub few : WhereEnded result ((library : List LibraryFile) → IsTold told library → ¬ AreTooMany given library)
  pub form : WhereEnded result ((library : List LibraryFile) → IsTold told library → (name : List ℕ) → (result ≡ Err (collecting.LibraryForm name)) ↔ FailsForm given library name)
  pub missing : WhereEnded result ((library : List LibraryFile) → IsTold told library → (name : List ℕ) → (result ≡ Err (collecting.Missing name)) ↔ FailsThere given library name)
  pub apart : WhereEnded result ((library : List LibraryFile) → IsTold told library → (name : List ℕ) → (result ≡ Err (collecting.NamesApplication name)) ↔ FailsApart given library name)
  pub limit : (quantity : Quantity) → result ≡ Err (collecting.Limit quantity)
      → ((quantity ≡ quantities.Classes) × ((library : List LibraryFile) → IsTold told library → AreTooMany given library)) ⊎ ((asked ≢ []) × (passed ≡ Some quantity))
  pub too_much : WhereAnswered result ((quantity : Quantity) → asked ≢ [] → passed ≡ Some quantity → result ≡ Err (collecting.Limit quantity))
  pub asked_past : AskedPast names asked
  pub asked_once : AreDistinct asked
  pub asked_collected : (library : List LibraryFile) → IsTold told library → (name : List ℕ) → Contains asked name → IsCollected given library (ClassNamed name)
  pub answered_all : WhereEnded result ((library : List LibraryFile) → IsTold told library → AreThose (λ name. IsCollected given library (ClassNamed name)) names)

-- ---- names that were asked and answered

distinct_front : (names more : List (List ℕ)) → AreDistinct (names ++ more) → AreDistinct names
distinct_front [] more h = tt
distinct_front (name ∷ names) more h = (λ there. h.0 (Contains-append_left names more name there), distinct_front names more h.1)

answered_once : (names asked : List (List ℕ)) → AskedPast names asked → AreDistinct asked → AreDistinct names
answered_once names asked (inl same) once = subst (λ (l : List (List ℕ)). AreDistinct l) same once
answered_once names asked (inr more) once = distinct_front names (more.0 ∷ []) (subst (λ (l : List (List ℕ)). AreDistinct l) more.1 once)

answered_asked : (names asked : List (List ℕ)) (name : List ℕ) → AskedPast names asked → Contains names name → Contains asked name
answered_asked names asked name (inl same) h = subst (λ (l : List (List ℕ)). Contains l name) (sym same) h
answered_asked names asked name (inr more) h = subst (λ (l : List (List ℕ)). Contains l name) (sym more.1) (Contains-append_left names (more.0 ∷ []) name h)

no_last : (names : List (List ℕ)) (last : List ℕ) → [] ≡ names ++ last ∷ [] → ⊥
no_last [] last e = cc
no_last (name ∷ names) last e = cc

none_answered : (names asked : List (List ℕ)) → AskedPast names asked → asked ≡ [] → names ≡ []
none_answered names asked (inl same) e = sym same ∙ e
none_answered names asked (inr more) e = absurd (no_last names more.0 (sym e ∙ more.1))

-- ---- limits

false_true : false ≡ true → ⊥
false_true e = cc

-- no files pass nothing
nothing_passes : (files : List HostFile) (lib : List ℕ) (quantity : Quantity) → PassesBy files lib [] quantity → ⊥
nothing_passes files lib quantity (inl long) = false_true long.1
nothing_passes files lib quantity (inr many) = let lt : most_library_bytes < 0 = many.1 in omega arith

abbrev IsLimit : Result Collected CollectStop → Quantity → Type 0
IsLimit result quantity = result ≡ Err (collecting.Limit quantity)

ok_limit : (found : Collected) (quantity : Quantity) → IsLimit (Ok found) quantity → ⊥
ok_limit found quantity e = cc

form_limit : (name : List ℕ) (quantity : Quantity) → IsLimit (Err (collecting.LibraryForm name)) quantity → ⊥
form_limit name quantity e = cc

missing_limit : (name : List ℕ) (quantity : Quantity) → IsLimit (Err (collecting.Missing name)) quantity → ⊥
missing_limit name quantity e = cc

names_limit : (name : List ℕ) (quantity : Quantity) → IsLimit (Err (collecting.NamesApplication name)) quantity → ⊥
names_limit name quantity e = cc

-- ---- the folder

module _ (files : List HostFile) (app lib : List ℕ) (given : Application) (asked names : List (List ℕ)) (passed : Option Quantity)
    (library_is : IsLibraryIn (record { files = files; app = app; lib = lib }) (library_in files lib)) (passing : PassingIsLimit) (none : NonePasses)
    (passes : (quantity : Quantity) → passed ≡ Some quantity → PassesBy files lib names quantity) (within : passed ≡ None → PassNone files lib names) where
  told : IsTold (Some (library_in files lib)) (library_in files lib)
  told = record { told = refl; map = library_is.is_library }

  none_passed : AskedPast names asked → ((quantity : Quantity) → asked ≢ [] → passed ≡ Some quantity → ⊥) → (quantity : Quantity) → passed ≡ Some quantity → ⊥
  none_passed past much quantity e =
      much quantity (λ nothing. nothing_passes files lib quantity (subst (λ (l : List (List ℕ)). PassesBy files lib l quantity) (none_answered names asked past nothing) (passes quantity e))) e

  passed_none : AskedPast names asked → ((quantity : Quantity) → asked ≢ [] → passed ≡ Some quantity → ⊥) → (p : Option Quantity) → passed ≡ p → PassNone files lib names
  passed_none past much None e = within e
  passed_none past much (Some quantity) e = absurd (none_passed past much quantity e)

  no_limit : ¬ AreTooMany given (library_in files lib) → AreThose (λ name. IsCollected given (library_in files lib) (ClassNamed name)) names → AskedPast names asked
      → ((quantity : Quantity) → asked ≢ [] → passed ≡ Some quantity → ⊥) → PassesNoLimit (record { files = files; app = app; lib = lib }) given (library_in files lib)
  no_limit few those past much = none (record { files = files; app = app; lib = lib }) given (library_in files lib) names those (passed_none past much passed refl) few

  in_folder : (found : Collected) → IsRun given (Some (library_in files lib)) asked names passed (Ok found) → IsCollectedFrom (record { files = files; app = app; lib = lib }) given found
  in_folder found run = record {
    library = library_in files lib;
    library_is = library_is;
    no_limit = no_limit (run.few (library_in files lib) told) (run.answered_all (library_in files lib) told) run.asked_past (λ quantity some e. ok_limit found quantity (run.too_much quantity some e));
    fails_not = run.fit (library_in files lib) told;
    collected = run.collected (library_in files lib) told;
  }

  limit_by : (quantity : Quantity) → IsRun given (Some (library_in files lib)) asked names passed (Err (collecting.Limit quantity))
      → ((quantity ≡ quantities.Classes) × ((library : List LibraryFile) → IsTold (Some (library_in files lib)) library → AreTooMany given library)) ⊎ ((asked ≢ []) × (passed ≡ Some quantity))
      → PassesLimit (record { files = files; app = app; lib = lib }) given (library_in files lib) quantity
  limit_by quantity run (inl many) = inr (inl (many.0, many.1 (library_in files lib) told))
  limit_by quantity run (inr passes_it) =
      passing (record { files = files; app = app; lib = lib }) given (library_in files lib) names quantity (answered_once names asked run.asked_past run.asked_once)
      (λ name h. run.asked_collected (library_in files lib) told name (answered_asked names asked name run.asked_past h)) (passes quantity passes_it.1)

  stops_in_folder : (stop : CollectStop) (file : Option (List ℕ)) → IsRun given (Some (library_in files lib)) asked names passed (Err stop)
      → IfStop (StopsCollecting (record { files = files; app = app; lib = lib }) given) (stop_of stop file)
  stops_in_folder (collecting.LibraryForm name) file run =
      at_collected (library_in files lib) rules.LibraryForm name library_is refl
      (no_limit (run.few (library_in files lib) told) (run.answered_all (library_in files lib) told) run.asked_past (λ quantity some e. form_limit name quantity (run.too_much quantity some e)))
      (by_form refl ((run.form (library_in files lib) told name).0 refl))
  stops_in_folder (collecting.Missing name) file run =
      at_collected (library_in files lib) rules.MissingClass name library_is refl
      (no_limit (run.few (library_in files lib) told) (run.answered_all (library_in files lib) told) run.asked_past (λ quantity some e. missing_limit name quantity (run.too_much quantity some e)))
      (by_file refl ((run.missing (library_in files lib) told name).0 refl))
  stops_in_folder (collecting.NamesApplication name) file run =
      at_collected (library_in files lib) rules.LibraryNamesApplication name library_is refl
      (no_limit (run.few (library_in files lib) told) (run.answered_all (library_in files lib) told) run.asked_past (λ quantity some e. names_limit name quantity (run.too_much quantity some e)))
      (by_names refl ((run.apart (library_in files lib) told name).0 refl))
  stops_in_folder (collecting.Limit quantity) file run = at_limit (library_in files lib) quantity library_is refl (limit_by quantity run (run.limit quantity refl))
  stops_in_folder collecting.Failed None run = tt
  stops_in_folder collecting.Failed (Some file) run = tt
  stops_in_folder collecting.Memory file run = tt

-- ---- where a host may tell its files or not

module _ (lib : List ℕ) (given : Application) (asked names : List (List ℕ)) (passed : Option Quantity) (libraries : AreLibraries) (passing : PassingIsLimit) (none : NonePasses) where
  pub collected_told : (told later : Option (List HostFile)) (result : Result Collected CollectStop) (file : Option (List ℕ)) (answer : Result Collected AcceptStop) → later ≡ told → answer ≡ answer_of result file
      → IfSome later (λ files. (quantity : Quantity) → passed ≡ Some quantity → PassesBy files lib names quantity) → IfSome later (λ files. passed ≡ None → PassNone files lib names)
      → IsRun given (option_map (λ files. library_in files lib) told) asked names passed result
      → IfOk answer (λ found. (app : List ℕ) → InFolders told app lib (λ folders. IsCollectedFrom folders given found))
  collected_told told later result file answer same is passes within run =
      subst (λ (a : Result Collected AcceptStop). IfOk a (λ found. (app : List ℕ) → InFolders told app lib (λ folders. IsCollectedFrom folders given found))) (sym is)
      (by told result (subst (λ (o : Option (List HostFile)). IfSome o (λ files. (quantity : Quantity) → passed ≡ Some quantity → PassesBy files lib names quantity)) same passes)
      (subst (λ (o : Option (List HostFile)). IfSome o (λ files. passed ≡ None → PassNone files lib names)) same within) run)
    where
      by : (told : Option (List HostFile)) (result : Result Collected CollectStop) → IfSome told (λ files. (quantity : Quantity) → passed ≡ Some quantity → PassesBy files lib names quantity)
          → IfSome told (λ files. passed ≡ None → PassNone files lib names) → IsRun given (option_map (λ files. library_in files lib) told) asked names passed result
          → IfOk (answer_of result file) (λ found. (app : List ℕ) → InFolders told app lib (λ folders. IsCollectedFrom folders given found))
      by None (Ok found) passes within run = λ app. tt
      by (Some files) (Ok found) passes within run = λ app. in_folder files app lib given asked names passed (libraries files app lib) passing none passes within found run
      by told (Err stop) passes within run = tt

  pub stopped_told : (told later : Option (List HostFile)) (result : Result Collected CollectStop) (file : Option (List ℕ)) (answer : Result Collected AcceptStop) → later ≡ told → answer ≡ answer_of result file
      → IfSome later (λ files. (quantity : Quantity) → passed ≡ Some quantity → PassesBy files lib names quantity) → IfSome later (λ files. passed ≡ None → PassNone files lib names)
      → IsRun given (option_map (λ files. library_in files lib) told) asked names passed result
      → IfErr answer (λ stop. (app : List ℕ) → InFolders told app lib (λ folders. IfStop (StopsCollecting folders given) stop))
  stopped_told told later result file answer same is passes within run =
      subst (λ (a : Result Collected AcceptStop). IfErr a (λ stop. (app : List ℕ) → InFolders told app lib (λ folders. IfStop (StopsCollecting folders given) stop))) (sym is)
      (by told result (subst (λ (o : Option (List HostFile)). IfSome o (λ files. (quantity : Quantity) → passed ≡ Some quantity → PassesBy files lib names quantity)) same passes)
      (subst (λ (o : Option (List HostFile)). IfSome o (λ files. passed ≡ None → PassNone files lib names)) same within) run)
    where
      by : (told : Option (List HostFile)) (result : Result Collected CollectStop) → IfSome told (λ files. (quantity : Quantity) → passed ≡ Some quantity → PassesBy files lib names quantity)
          → IfSome told (λ files. passed ≡ None → PassNone files lib names) → IsRun given (option_map (λ files. library_in files lib) told) asked names passed result
          → IfErr (answer_of result file) (λ stop. (app : List ℕ) → InFolders told app lib (λ folders. IfStop (StopsCollecting folders given) stop))
      by told (Ok found) passes within run = tt
      by None (Err stop) passes within run = λ app. tt
      by (Some files) (Err stop) passes within run = λ app. stops_in_folder files app lib given asked names passed (libraries files app lib) passing none passes within stop file run

-- ---- whatever the host tells

pub known_of : (given : Application) (names : List (List ℕ)) (result : Result Collected CollectStop) (file : Option (List ℕ)) (answer : Result Collected AcceptStop) → answer ≡ answer_of result file
    → IfOk result (AreOverRead given IsStated names) → IfOk answer (IsCollectedOfSome given)
known_of given names result file answer is read =
    subst (λ (a : Result Collected AcceptStop). IfOk a (IsCollectedOfSome given)) (sym is) (by result read)
  where
    by : (result : Result Collected CollectStop) → IfOk result (AreOverRead given IsStated names) → IfOk (answer_of result file) (IsCollectedOfSome given)
    by (Ok found) h = record { library = h.library; is_library = h.map; stated = h.stated; collected = h.collected; fails_not = h.fit; few = h.few }
    by (Err stop) h = tt
