-- What is read of a file, how it is counted, and where it stops.
use Rattle.std.proofs.Common.{◌≡◌, ℕ, ◌≤◌, ◌++◌, List, [], ◌∷◌, length, take, Option, Some, None, Ok, Err, IfSome, false, refl, sym, ◌∙◌, ap, subst, arith}
use Rattle.std.specs.Prelude.{option_map}
use Rattle.std.proofs.lemmas.List.{length-take, take_all}
use Rattle.jv_types.specs.declared.quantity.Quantity.TheVariants as quantities
use Rattle.jv_host.specs.declared.host.HostCall.{HostCall}
use Rattle.jv_host.specs.declared.host.HostCall.TheVariants as calls
use Rattle.jv_host.specs.declared.host.HostFile.{HostFile}
use Rattle.jv_host.specs.Files.{bytes_of}
use Rattle.av_program.specs.declared.accept_stop.AcceptStop.{AcceptStop}
use Rattle.av_program.specs.declared.accept_stop.AcceptStop.TheVariants.{ReadFault, Limit}
use Rattle.av_program.specs.Reads.{HostView, is_module_info, most_read}
use Rattle.av_app_files.specs.Counting.{IsCounted, IsUncounted}
use Rattle.av_app_files.specs.Counting as counts
use Rattle.av_app_files.specs.Folders.{Folders}
use Rattle.av_app_files.specs.FileRules.{IsStopAt, most_app_bytes, most_file_bytes}
use Rattle.av_app_files.specs.FileRules as stops
use Rattle.av_program.specs.Answering.{IfStop}
use Rattle.av_load.specs.declared.app_class.AppClass.{AppClass}
use Rattle.av_load.specs.Answers.{InFolders, Reads}
use Rattle.av_load.specs.Steps.Loading.{IsLoadedFrom, IsNext, IsNextBytes, IsReadOf, IsRefusedFile, StopsAtName, loaded, of_app, of_lib, passed_over, source_of}
use Rattle.av_load.proofs.Sources.{by_option, source_absent, source_there}
use Rattle.av_load.proofs.Told.{in_both, in_weaker, reads_as, reads_may, reads_on, reads_then, stop_is, stop_weaker}

-- bytes of which fewer were read than were asked for are all
whole_is : (bytes whole : List ℕ) → bytes ≡ take 16777217 whole → length bytes ≤ 16777216 → bytes ≡ whole
whole_is bytes whole e short =
    let cut : length bytes ≡ length (take 16777217 whole) = ap length e in
    e ∙ take_all 16777217 whole (omega (arith, cut, length-take 16777217 whole, short))

pub there_is : (told : Option (List HostFile)) (app lib name bytes : List ℕ) → length bytes ≤ 16777216 → InFolders told app lib (λ folders. IsNextBytes folders name (Some bytes))
    → InFolders told app lib (λ folders. source_of folders name ≡ record { name = name; bytes = bytes } ∷ [])
there_is told app lib name bytes short given =
    in_weaker told app lib (λ folders. IsNextBytes folders name (Some bytes)) (λ folders. source_of folders name ≡ record { name = name; bytes = bytes } ∷ [])
    (λ folders is. is.1 ∙ ap (λ (b : List ℕ). record { name = name; bytes = b } ∷ []) (sym (whole_is bytes is.0 is.2 short)))
    given

bytes_given : (folders : Folders) (name : List ℕ) (found : Option (List ℕ)) → is_module_info name ≡ false → found ≡ option_map (take 16777217) (bytes_of folders.files folders.app name)
    → IsNextBytes folders name found
bytes_given folders name found counts is =
    by_option (bytes_of folders.files folders.app name)
    (λ none. subst (IsNextBytes folders name) (sym (is ∙ ap (λ (o : Option (List ℕ)). option_map (take 16777217) o) none)) (source_absent folders name counts none))
    (λ whole has.
    subst (IsNextBytes folders name) (sym (is ∙ ap (λ (o : Option (List ℕ)). option_map (take 16777217) o) has)) (whole, source_there folders name whole counts has, refl))

pub next_given : {X : Type 0} (told : Option (List HostFile)) (app lib name : List ℕ) (items : X → List ℕ) (found : Option X) → is_module_info name ≡ false
    → IfSome told (λ files. option_map items found ≡ option_map (take 16777217) (bytes_of files app name)) → InFolders told app lib (λ folders. IsNextBytes folders name (option_map items found))
next_given None app lib name items found counts is = tt
next_given (Some files) app lib name items found counts is = bytes_given (record { files = files; app = app; lib = lib }) name (option_map items found) counts is

-- ---- where it stops

uncounted_at : (folders : Folders) (name bytes whole : List ℕ) (before : ℕ) (stop : AcceptStop) → bytes ≡ take 16777217 whole → IsUncounted before (length bytes) stop
    → IsStopAt folders before (record { name = name; bytes = whole }) stop
uncounted_at folders name bytes whole before stop e un =
    let cut : length bytes ≡ length (take 16777217 whole) = ap length e in
    let most = length-take 16777217 whole in
    elim un [
      | counts.too_long f long ↦ stops.too_long f (omega (arith, cut, most, long))
      | counts.too_many f short many ↦
          let all : length bytes ≡ length whole = ap length (whole_is bytes whole e short) in
          stops.too_many f (omega (arith, all, short)) (omega (arith, all, many))
    ]

pub stop_uncounted : (told : Option (List HostFile)) (app lib name bytes : List ℕ) (before : ℕ) (stop : AcceptStop) → InFolders told app lib (λ folders. IsNextBytes folders name (Some bytes))
    → IsUncounted before (length bytes) stop → InFolders told app lib (λ folders. IfStop (StopsAtName folders before name) stop)
stop_uncounted told app lib name bytes before stop given un =
    in_weaker told app lib (λ folders. IsNextBytes folders name (Some bytes)) (λ folders. IfStop (StopsAtName folders before name) stop)
    (λ folders is. stop_is (StopsAtName folders before name) stop (record { name = name; bytes = is.0 }, is.1, uncounted_at folders name bytes is.0 before stop is.2 un))
    given

pub stop_refused : (told : Option (List HostFile)) (app lib name bytes : List ℕ) (before total : ℕ) (stop : AcceptStop) → InFolders told app lib (λ folders. IsNextBytes folders name (Some bytes))
    → IsCounted before (length bytes) total → InFolders told app lib (λ folders. IfStop (IsRefusedFile folders (record { name = name; bytes = bytes })) stop)
    → InFolders told app lib (λ folders. IfStop (StopsAtName folders before name) stop)
stop_refused told app lib name bytes before total stop given counted refused =
    in_both told app lib (λ folders. source_of folders name ≡ record { name = name; bytes = bytes } ∷ []) (λ folders. IfStop (IsRefusedFile folders (record { name = name; bytes = bytes })) stop)
    (λ folders. IfStop (StopsAtName folders before name) stop)
    (λ folders there is. stop_weaker (IsRefusedFile folders (record { name = name; bytes = bytes })) (StopsAtName folders before name) stop
    (λ s (rule, e, fails). (record { name = name; bytes = bytes }, there, stops.refused rule e counted.short (omega (arith, counted.sum, counted.few)) fails)) is)
    (there_is told app lib name bytes counted.short given) refused

-- ---- how it goes on

pub next_loaded : (told : Option (List HostFile)) (app lib name bytes : List ℕ) (old new : List AppClass) (before total : ℕ) (class : AppClass)
    → InFolders told app lib (λ folders. IsNextBytes folders name (Some bytes)) → IsCounted before (length bytes) total → IsLoadedFrom told lib name bytes class → new ≡ old ++ class ∷ []
    → IsNext told app lib name old new before total
next_loaded told app lib name bytes old new before total class given counted from e = loaded class bytes e counted from (there_is told app lib name bytes counted.short given)

pub next_passed : {X : Type 0} (told : Option (List HostFile)) (app lib name : List ℕ) (items : X → List ℕ) (found : Option X) (old : List AppClass) (before : ℕ) → found ≡ None
    → InFolders told app lib (λ folders. IsNextBytes folders name (option_map items found)) → IsNext told app lib name old old before before
next_passed {X = X} told app lib name items found old before e given =
    passed_over refl refl (subst (λ (o : Option X). InFolders told app lib (λ folders. IsNextBytes folders name (option_map items o))) e given)

-- what is given of a file that was found
pub found_given : {X : Type 0} (told : Option (List HostFile)) (app lib name : List ℕ) (items : X → List ℕ) (found : Option X) (it : X) → found ≡ Some it
    → InFolders told app lib (λ folders. IsNextBytes folders name (option_map items found)) → InFolders told app lib (λ folders. IsNextBytes folders name (Some (items it)))
found_given {X = X} told app lib name items found it e given = subst (λ (o : Option X). InFolders told app lib (λ folders. IsNextBytes folders name (option_map items o))) e given

pub found_counts : {X : Type 0} (name : List ℕ) (found : Option X) (it : X) → found ≡ Some it → IfSome found (λ _. is_module_info name ≡ false) → is_module_info name ≡ false
found_counts {X = X} name found it e counts = subst (λ (o : Option X). IfSome o (λ _. is_module_info name ≡ false)) e counts

-- ---- its reads

abbrev IsOwnRead : List ℕ → List ℕ → HostCall → Type 0
IsOwnRead app name call = (call ≡ calls.ReadFile app name most_read) × (is_module_info name ≡ false)

abbrev IsLibRead : List ℕ → List ℕ → HostCall → Type 0
IsLibRead lib name call = call ≡ calls.ReadFile lib name 0

own_read : (app lib name : List ℕ) (call : HostCall) → IsOwnRead app name call → IsReadOf app lib name call
own_read app lib name call h = of_app most_read h.0 (omega arith) h.1

lib_read : (app lib name : List ℕ) → is_module_info name ≡ false → (call : HostCall) → IsLibRead lib name call → IsReadOf app lib name call
lib_read app lib name counts call h = of_lib 0 h (omega arith) counts

pub reads_own : {T U : Type 0} (app lib name : List ℕ) (a b : HostView) (x : T) (y : U) → Reads (IsOwnRead app name) a b (Ok x) → Reads (IsReadOf app lib name) a b (Ok y)
reads_own app lib name a b x y p = reads_on (IsReadOf app lib name) a b x y (reads_may (IsOwnRead app name) (IsReadOf app lib name) a b (Ok x) (own_read app lib name) p)

pub reads_own_stop : (T U : Type 0) (app lib name : List ℕ) (a b : HostView) (stop : AcceptStop) → Reads {T = T} (IsOwnRead app name) a b (Err stop) → Reads {T = U} (IsReadOf app lib name) a b (Err stop)
reads_own_stop T U app lib name a b stop p = reads_may (IsOwnRead app name) (IsReadOf app lib name) a b (Err stop) (own_read app lib name) (reads_as T U (IsOwnRead app name) a b stop p)

pub reads_both : {T U V : Type 0} (app lib name : List ℕ) (a b c : HostView) (x : T) (y : U) (z : V) → is_module_info name ≡ false → Reads (IsOwnRead app name) a b (Ok x)
    → Reads (IsLibRead lib name) b c (Ok y) → Reads (IsReadOf app lib name) a c (Ok z)
reads_both app lib name a b c x y z counts p q =
    reads_on (IsReadOf app lib name) a c y z
    (reads_then (IsReadOf app lib name) a b c x (Ok y) (reads_own app lib name a b x x p) (reads_may (IsLibRead lib name) (IsReadOf app lib name) b c (Ok y) (lib_read app lib name counts) q))

pub reads_both_stop : {T : Type 0} (U V : Type 0) (app lib name : List ℕ) (a b c : HostView) (x : T) (stop : AcceptStop) → is_module_info name ≡ false → Reads (IsOwnRead app name) a b (Ok x)
    → Reads {T = U} (IsLibRead lib name) b c (Err stop) → Reads {T = V} (IsReadOf app lib name) a c (Err stop)
reads_both_stop U V app lib name a b c x stop counts p q =
    reads_then (IsReadOf app lib name) a b c x (Err stop) (reads_own app lib name a b x x p)
    (reads_may (IsLibRead lib name) (IsReadOf app lib name) b c (Err stop) (lib_read app lib name counts) (reads_as U V (IsLibRead lib name) b c stop q))

pub uncounted_no_fault : (before long : ℕ) (stop : AcceptStop) → IsUncounted before long stop → (name : List ℕ) → stop ≡ ReadFault name → ⊥
uncounted_no_fault before long stop un name is = elim un [
  | counts.too_long e more ↦ let clash : Limit quantities.FileBytes most_file_bytes ≡ ReadFault name = sym e ∙ is in absurd cc
  | counts.too_many e short many ↦ let clash : Limit quantities.AppBytes most_app_bytes ≡ ReadFault name = sym e ∙ is in absurd cc
]
