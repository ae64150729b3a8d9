-- What was read, after one name more and after many.
use Rattle.std.proofs.Common.{◌≡◌, ℕ, ◌+◌, ◌<◌, Bool, true, false, IsTrue, ◌↔◌, Result, IfErr, length, take, get_or, ◌⊎◌, inl, inr, List, [], ◌∷◌, ◌++◌, Option, Some, IfSome, map, Contains, refl, ap, sym, ◌∙◌, subst, append_assoc, append-nil}
use Rattle.std.specs.Result.{IsErrAnd}
use Rattle.std.proofs.lemmas.List.{map_push, take_more}
use Rattle.std.proofs.lemmas.Result.{err_from_is_err_and}
use Rattle.std.proofs.lemmas.List.Elements.{Contains-append_left, Contains-append_right, Contains-append_cases}
use Rattle.jv_types.specs.declared.shapes.Shape.{Shape}
use Rattle.av_collected.specs.declared.stop.CollectStop.{CollectStop}
use Rattle.av_collected.specs.declared.stop.CollectStop.TheVariants.{Memory}
use Rattle.av_collected.specs.Libraries.{LibraryFile, IsLibraryShape, HasFile}
use Rattle.av_collected.specs.Rounds.{IsInside}
use Rattle.av_collected.proofs.Lists.{in_head, in_tail, of_cons, in_none}
use Rattle.av_round.specs.declared.class_items.ClassItems.{ClassItems}
use Rattle.av_asked.specs.declared.look.Look.{Look}
use Rattle.av_asked.specs.declared.look.Look.TheVariants.{Absent, File}
use Rattle.av_reading.specs.declared.reading.Reading.{Reading}
use Rattle.av_asked.specs.Asking.{AreDistinct}
use Rattle.av_reading.specs.Progress.{Goes, IsOneOf}
use Rattle.av_asked.specs.Read.{HasFound, HasRead, IsFitLook, IsFitShape, files_with}
use Rattle.av_asked.specs.Sources.{SourceState, Ran, Stops, StopsAmong}
use Rattle.av_reading.proofs.Lists.{distinct_last, only_one}
use Rattle.av_reading.proofs.Moves.{ran_none, ran_on, memory_after, among_later, among_weaker}

abbrev file_of : List ℕ → Option Shape → LibraryFile
file_of name shape = record { name = name; shape = shape }

same_file : (file : LibraryFile) (name : List ℕ) (shape : Option Shape) → file.name ≡ name → file.shape ≡ shape → file ≡ file_of name shape
same_file file name shape is has =
    ap (λ (n : List ℕ). file_of n file.shape) is ∙ ap (λ (s : Option Shape). file_of name s) has

abbrev file_name : LibraryFile → List ℕ
file_name file = file.name

file_back : (files : List LibraryFile) (name : List ℕ) → Contains (map file_name files) name → (file : LibraryFile) × Contains files file × (file.name ≡ name)
file_back [] name h = absurd (in_none name h)
file_back (f ∷ files) name h = elim (of_cons f.name (map file_name files) name h) [
  | inl is ↦ (f, in_head f files, is)
  | inr there ↦ let t = file_back files name there in (t.0, in_tail f files t.0 t.1, t.2)
]

in_last : {X : Type 0} (xs : List X) (x : X) → Contains (xs ++ x ∷ []) x
in_last xs x = Contains-append_right xs (x ∷ []) x (in_head x [])

told_is : {X : Type 0} (P : X → Type 0) (o : Option X) (x : X) → IfSome o P → o ≡ Some x → P x
told_is {X} P o x h is = subst (λ (t : Option X). IfSome t P) is h

fit_shape : (known : Shape → Type 0) (name : List ℕ) (o : Option Shape) (shape : Shape) → IsFitShape known name o → o ≡ Some shape → IsLibraryShape name shape × known shape
fit_shape known name o shape fit is = subst (λ (s : Option Shape). IsFitShape known name s) is fit

module _ (told : Option (List LibraryFile)) (known : Shape → Type 0) (files : List LibraryFile) (names : List (List ℕ)) (name : List ℕ)
    (read : HasRead told known files names) (fresh : Contains names name → ⊥) where
  read_absent : IfSome told (λ library. HasFound library name Absent) → HasRead told known files (names ++ name ∷ [])
  read_absent found = record {
    once = distinct_last names name read.once fresh;
    asked = λ file h. Contains-append_left names (name ∷ []) file.name (read.asked file h);
    map = read.map;
    apart = read.apart;
    stated = read.stated;
    inside = read.inside;
    all = λ library is file has named. elim (Contains-append_cases names (name ∷ []) file.name named) [
      | inl there ↦ read.all library is file has there
      | inr here ↦ absurd (told_is (λ l. HasFile l name → ⊥) told library found is.told (file, has, sym (only_one name file.name here)))
    ];
  }

  module _ (shape : Option Shape) (found : IfSome told (λ library. HasFound library name (File shape))) (fit : IsFitShape known name shape) where
    asked_more : (file : LibraryFile) → Contains (files ++ file_of name shape ∷ []) file → Contains (names ++ name ∷ []) file.name
    asked_more file h = elim (Contains-append_cases files (file_of name shape ∷ []) file h) [
      | inl there ↦ Contains-append_left names (name ∷ []) file.name (read.asked file there)
      | inr here ↦ subst (λ (f : LibraryFile). Contains (names ++ name ∷ []) f.name) (only_one (file_of name shape) file here) (in_last names name)
    ]

    -- the new file has no name of an earlier one
    differs : (file other : LibraryFile) → Contains files file → file_of name shape ≡ other → file.name ≡ other.name → ⊥
    differs file other there is same =
        fresh (subst (λ (n : List ℕ). Contains names n) (same ∙ ap (λ (f : LibraryFile). f.name) (sym is)) (read.asked file there))

    once_more : (file other : LibraryFile) → Contains (files ++ file_of name shape ∷ []) file → Contains (files ++ file_of name shape ∷ []) other
        → file.name ≡ other.name → file ≡ other
    once_more file other h g same =
        by (Contains-append_cases files (file_of name shape ∷ []) file h) (Contains-append_cases files (file_of name shape ∷ []) other g)
      where
        by : Contains files file ⊎ Contains (file_of name shape ∷ []) file → Contains files other ⊎ Contains (file_of name shape ∷ []) other → file ≡ other
        by (inl p) (inl q) = read.map.once file other p q same
        by (inl p) (inr q) = absurd (differs file other p (only_one (file_of name shape) other q) same)
        by (inr p) (inl q) = absurd (differs other file q (only_one (file_of name shape) file p) (sym same))
        by (inr p) (inr q) = sym (only_one (file_of name shape) file p) ∙ only_one (file_of name shape) other q

    new_shape : (file : LibraryFile) (s : Shape) → file_of name shape ≡ file → file.shape ≡ Some s → IsLibraryShape file.name s × known s
    new_shape file s is has =
        let p = fit_shape known name shape s fit (ap (λ (f : LibraryFile). f.shape) is ∙ has) in
        (subst (λ (n : List ℕ). IsLibraryShape n s) (ap (λ (f : LibraryFile). f.name) is) p.0, p.1)

    apart_more : AreDistinct (map file_name (files ++ file_of name shape ∷ []))
    apart_more =
        subst AreDistinct (sym (map_push file_name files (file_of name shape)))
        (distinct_last (map file_name files) name read.apart
        (λ h. let t = file_back files name h in fresh (subst (λ (n : List ℕ). Contains names n) t.2 (read.asked t.0 t.1))))

    read_file : HasRead told known (files ++ file_of name shape ∷ []) (names ++ name ∷ [])
    read_file = record {
      once = distinct_last names name read.once fresh;
      asked = asked_more;
      map = record {
        once = once_more;
        shapes = λ file s h has. elim (Contains-append_cases files (file_of name shape ∷ []) file h) [
          | inl there ↦ read.map.shapes file s there has
          | inr here ↦ (new_shape file s (only_one (file_of name shape) file here) has).0
        ];
      };
      apart = apart_more;
      stated = λ file s h has. elim (Contains-append_cases files (file_of name shape ∷ []) file h) [
        | inl there ↦ read.stated file s there has
        | inr here ↦ (new_shape file s (only_one (file_of name shape) file here) has).1
      ];
      inside = λ library is file h. elim (Contains-append_cases files (file_of name shape ∷ []) file h) [
        | inl there ↦ read.inside library is file there
        | inr here ↦
            let f = told_is (λ l. HasFound l name (File shape)) told library found is in
            let same : f.0 ≡ file = same_file f.0 name shape f.2 f.3 ∙ only_one (file_of name shape) file here in
            subst (λ (x : LibraryFile). Contains library x) same f.1
      ];
      all = λ library is file has named. elim (Contains-append_cases names (name ∷ []) file.name named) [
        | inl there ↦ Contains-append_left files (file_of name shape ∷ []) file (read.all library is file has there)
        | inr here ↦
            let f = told_is (λ l. HasFound l name (File shape)) told library found is.told in
            let one : f.0 ≡ file = is.map.once f.0 file f.1 has (f.2 ∙ only_one name file.name here) in
            let same : file_of name shape ≡ file = sym (same_file f.0 name shape f.2 f.3) ∙ one in
            subst (λ (x : LibraryFile). Contains (files ++ file_of name shape ∷ []) x) same (in_last files (file_of name shape))
      ];
    }

  pub read_one : (look : Look) → IfSome told (λ library. HasFound library name look) → IsFitLook known name look → HasRead told known (files_with files name look) (names ++ name ∷ [])
  read_one Absent found fit = read_absent found
  read_one (File shape) found fit = read_file shape found fit

pub read_none : (told : Option (List LibraryFile)) (known : Shape → Type 0) → HasRead told known [] []
read_none told known = record {
  once = tt;
  asked = λ file h. absurd (in_none file h);
  map = record { once = λ file other h g same. absurd (in_none file h); shapes = λ file shape h has. absurd (in_none file h) };
  apart = tt;
  stated = λ file shape h has. absurd (in_none file h);
  inside = λ library is file h. absurd (in_none file h);
  all = λ library is file has named. absurd (in_none file.name named);
}

-- nothing more was read
pub goes_none : (P : List ℕ → Type 0) (known : Shape → Type 0) (a : SourceState) (reading : Reading) → HasRead a.shapes known reading.files.items reading.asked → Goes P known a a reading reading
goes_none P known a reading read = record {
  names = [];
  each = λ name h. absurd (in_none name h);
  ran = ran_none a;
  asked = sym (append-nil reading.asked);
  inside = λ file h. h;
  idle = λ none. refl;
  read = read;
}

inside_with : (files : List LibraryFile) (name : List ℕ) (look : Look) → IsInside files (files_with files name look)
inside_with files name Absent = λ file h. h
inside_with files name (File shape) = λ file h. Contains-append_left files (file_of name shape ∷ []) file h

-- one name more was asked for
pub goes_one : (known : Shape → Type 0) (a b : SourceState) (old new : Reading) (name : List ℕ) (look : Look)
    → HasRead a.shapes known old.files.items old.asked → (Contains old.asked name → ⊥) → Ran a b (name ∷ [])
    → IfSome a.shapes (λ library. HasFound library name look) → IsFitLook known name look
    → new.files.items ≡ files_with old.files.items name look → new.asked ≡ old.asked ++ name ∷ []
    → Goes (λ other. other ≡ name) known a b old new
goes_one known a b old new name look read fresh ran found fit files asked = record {
  names = name ∷ [];
  each = λ other h. sym (only_one name other h);
  ran = ran;
  asked = asked;
  inside = λ file h. subst (λ (l : List LibraryFile). Contains l file) (sym files) (inside_with old.files.items name look file h);
  idle = λ none. absurd cc;
  read =
      subst (λ (l : List LibraryFile). HasRead a.shapes known l new.asked) (sym files)
      (subst (λ (l : List (List ℕ)). HasRead a.shapes known (files_with old.files.items name look) l) (sym asked)
      (read_one a.shapes known old.files.items old.asked name read fresh look found fit));
}

-- what was read stands beside the source as it is now
pub read_now : (known : Shape → Type 0) (a b : SourceState) (files : List LibraryFile) (names asked : List (List ℕ)) → Ran a b names → HasRead a.shapes known files asked → HasRead b.shapes known files asked
read_now known a b files names asked ran read = subst (λ (t : Option (List LibraryFile)). HasRead t known files asked) (sym ran.moved.shapes) read

idle_both : (names more : List (List ℕ)) → names ++ more ≡ [] → (names ≡ []) × (more ≡ [])
idle_both [] more e = (refl, e)
idle_both (name ∷ names) more e = absurd cc

pub goes_on : (P : List ℕ → Type 0) (known : Shape → Type 0) (a b c : SourceState) (old mid new : Reading) → Goes P known a b old mid → Goes P known b c mid new → Goes P known a c old new
goes_on P known a b c old mid new x y = record {
  names = x.names ++ y.names;
  each = λ name h. elim (Contains-append_cases x.names y.names name h) [ inl there ↦ x.each name there | inr there ↦ y.each name there ];
  ran = ran_on a b c x.names y.names x.ran y.ran;
  asked = y.asked ∙ ap (λ (l : List (List ℕ)). l ++ y.names) x.asked ∙ append_assoc old.asked x.names y.names;
  inside = λ file h. y.inside file (x.inside file h);
  idle = λ none. let parts = idle_both x.names y.names none in y.idle parts.1 ∙ x.idle parts.0;
  read = subst (λ (t : Option (List LibraryFile)). HasRead t known new.files.items new.asked) x.ran.moved.shapes y.read;
}

goes_weaker : (P Q : List ℕ → Type 0) (known : Shape → Type 0) (a b : SourceState) (old new : Reading) → ((name : List ℕ) → P name → Q name) → Goes P known a b old new → Goes Q known a b old new
goes_weaker P Q known a b old new weaker x = record {
  names = x.names;
  each = λ name h. weaker name (x.each name h);
  ran = x.ran;
  asked = x.asked;
  inside = x.inside;
  idle = x.idle;
  read = x.read;
}

pub one_of : (classes : List ClassItems) (class : ClassItems) → Contains classes class → (other : List ℕ) → other ≡ class.name → IsOneOf classes other
one_of classes class here other is = (class, here, sym is)

-- one class more was read
pub goes_more : (classes : List ClassItems) (class : ClassItems) (known : Shape → Type 0) (a b c : SourceState) (old mid new : Reading) → Contains classes class
    → Goes (IsOneOf classes) known a b old mid → Goes (λ other. other ≡ class.name) known b c mid new → Goes (IsOneOf classes) known a c old new
goes_more classes class known a b c old mid new here x y =
    goes_on (IsOneOf classes) known a b c old mid new x
    (goes_weaker (λ other. other ≡ class.name) (IsOneOf classes) known b c mid new (one_of classes class here) y)

-- and each class so far is one that was asked for
pub all_more : (classes : List ClassItems) (class : ClassItems) (P : List ℕ → Type 0) (known : Shape → Type 0) (b c : SourceState) (mid new : Reading)
    → ((other : ClassItems) → Contains classes other → Contains mid.asked other.name) → Goes P known b c mid new → Contains new.asked class.name
    → (other : ClassItems) → Contains (classes ++ class ∷ []) other → Contains new.asked other.name
all_more classes class P known b c mid new so_far y here other h = elim (Contains-append_cases classes (class ∷ []) other h) [
  | inl there ↦ subst (λ (l : List (List ℕ)). Contains l other.name) (sym y.asked) (Contains-append_left mid.asked y.names other.name (so_far other there))
  | inr last ↦ subst (λ (e : ClassItems). Contains new.asked e.name) (only_one class other last) here
]

-- memory was wanting before anything more was asked for, and after one more name
pub memory_before : (P : List ℕ → Type 0) (earlier : List (List ℕ)) (a : SourceState) → AreDistinct earlier → StopsAmong P earlier a a Memory
memory_before P earlier a once = record {
  names = [];
  each = λ name h. absurd (in_none name h);
  once = subst AreDistinct (sym (append-nil earlier)) once;
  stops = memory_after a a [] (ran_none a);
}

pub stops_one : (earlier : List (List ℕ)) (a b : SourceState) (stop : CollectStop) (name : List ℕ) → AreDistinct earlier → (Contains earlier name → ⊥) → Stops a b stop (name ∷ []) → StopsAmong (λ other. other ≡ name) earlier a b stop
stops_one earlier a b stop name once fresh stops = record {
  names = name ∷ [];
  each = λ other h. sym (only_one name other h);
  once = distinct_last earlier name once fresh;
  stops = stops;
}

-- ---- an answer

-- an error that a `?` hands on
pub stop_is : {T E : Type 0} (r : Result T E) (P : E → Type 0) (e : E) → IsErrAnd r (λ y. y ≡ e) → P e → IfErr r P
stop_is {T} {E} r P e h p =
    let t = err_from_is_err_and {Q = λ (y : E). y ≡ e} r h in
    subst (λ (x : Result T E). IfErr x P) (sym t.1) (subst P (sym t.2) p)

-- the source stopped at this one name, or memory was wanting after it
pub one_stop : {T : Type 0} (r : Result T CollectStop) (earlier : List (List ℕ)) (a b : SourceState) (stop : CollectStop) (name : List ℕ) → IsErrAnd r (λ e. e ≡ stop)
    → AreDistinct earlier → (Contains earlier name → ⊥) → Stops a b stop (name ∷ []) → IfErr r (StopsAmong (λ other. other ≡ name) earlier a b)
one_stop {T} r earlier a b stop name is once fresh stops =
    stop_is r (StopsAmong (λ other. other ≡ name) earlier a b) stop is (stops_one earlier a b stop name once fresh stops)

pub memory_stop : {T : Type 0} (r : Result T CollectStop) (earlier : List (List ℕ)) (a b : SourceState) (name : List ℕ) → IsErrAnd r (λ e. e ≡ Memory)
    → AreDistinct earlier → (Contains earlier name → ⊥) → Ran a b (name ∷ []) → IfErr r (StopsAmong (λ other. other ≡ name) earlier a b)
memory_stop {T} r earlier a b name is once fresh ran = one_stop r earlier a b Memory name is once fresh (memory_after a b (name ∷ []) ran)

-- a test that failed
pub not_there : (b : Bool) (P : Type 0) → IsTrue b ↔ P → b ≡ false → P → ⊥
not_there b P h is p = let t : b ≡ true = h.1 p in absurd cc

-- ---- reading classes

all_stops : (classes : List ClassItems) (class : ClassItems) (known : Shape → Type 0) (a b c : SourceState) (old mid : Reading) (stop : CollectStop) → Contains classes class
    → Goes (IsOneOf classes) known a b old mid → StopsAmong (λ other. other ≡ class.name) mid.asked b c stop → StopsAmong (IsOneOf classes) old.asked a c stop
all_stops classes class known a b c old mid stop here goes s =
    among_later (IsOneOf classes) old.asked goes.names a b c stop goes.ran goes.each
    (subst (λ (l : List (List ℕ)). StopsAmong (IsOneOf classes) l b c stop) goes.asked
    (among_weaker (λ other. other ≡ class.name) (IsOneOf classes) mid.asked b c stop (one_of classes class here) s))

-- the source stopped at one of the classes
pub class_stop : {T : Type 0} (r : Result T CollectStop) (classes : List ClassItems) (class : ClassItems) (known : Shape → Type 0) (a b c : SourceState) (old mid : Reading) (stop : CollectStop)
    → IsErrAnd r (λ e. e ≡ stop) → Contains classes class → Goes (IsOneOf classes) known a b old mid → StopsAmong (λ other. other ≡ class.name) mid.asked b c stop
    → IfErr r (StopsAmong (IsOneOf classes) old.asked a c)
class_stop {T} r classes class known a b c old mid stop is here goes s =
    stop_is r (StopsAmong (IsOneOf classes) old.asked a c) stop is (all_stops classes class known a b c old mid stop here goes s)

pub all_next : (classes : List ClassItems) (k : ℕ) (class : ClassItems) (P : List ℕ → Type 0) (known : Shape → Type 0) (b c : SourceState) (mid new : Reading)
    → k < length classes → class ≡ get_or classes k class → ((other : ClassItems) → Contains (take k classes) other → Contains mid.asked other.name) → Goes P known b c mid new → Contains new.asked class.name
    → (other : ClassItems) → Contains (take (k + 1) classes) other → Contains new.asked other.name
all_next classes k class P known b c mid new within is so_far goes here other h =
    let parts : take (k + 1) classes ≡ take k classes ++ class ∷ [] = take_more classes k class within ∙ ap (λ (z : ClassItems). take k classes ++ z ∷ []) (sym is) in
    all_more (take k classes) class P known b c mid new so_far goes here other (subst (λ (l : List ClassItems). Contains l other) parts h)
