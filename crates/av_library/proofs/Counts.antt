-- What is counted of the files of the names that are answered.
use Rattle.std.proofs.Common.{◌≡◌, ◌<◌, ◌≤◌, ◌+◌, ◌⊎◌, inl, inr, Bool, true, false, ◌||◌, ltb, ℕ, List, [], ◌∷◌, ◌++◌, length, take, sum_by, unwrap_or, is_some, if◌then◌else◌, Option, Some, None, option_map, IfSome, refl, sym, ap, subst, ◌∙◌, arith}
use Rattle.std.specs.List.{list_any}
use Rattle.std.proofs.lemmas.Bool.{ltb-true, ltb-false, lt-ltb, or_left, or_right, or_from}
use Rattle.std.proofs.lemmas.List.{length-take}
use Rattle.std.proofs.lemmas.List.Sums.{sum_by-append}
use Rattle.std.proofs.lemmas.List.Folds.{list_any-append}
use Rattle.jv_types.specs.declared.quantity.Quantity.{Quantity}
use Rattle.jv_types.specs.declared.quantity.Quantity.TheVariants as quantities
use Rattle.jv_host.specs.declared.host.HostFile.{HostFile}
use Rattle.jv_host.specs.Files.{bytes_of}
use Rattle.av_app_files.specs.Folders.{is_module_info, file_of}
use Rattle.av_app_files.specs.FileRules.{most_file_bytes}
use Rattle.av_library.specs.declared.counted.Counted.{Counted}
use Rattle.av_library.specs.Counting.{AreCounted, counted_after, counted_for, is_long, most_library_bytes, passed_of, size_of}
use Rattle.av_program.specs.Reads.{most_read}

-- ---- what has not passed

no_quantity : (q : Quantity) → Some q ≡ None → ⊥
no_quantity q e = cc

pub not_long : (counted : Counted) → passed_of counted ≡ None → counted.long ≡ false
not_long counted e = by counted.long e
  where
    by : (long : Bool) → (if long then Some quantities.FileBytes else (if ltb most_library_bytes counted.bytes then Some quantities.LibraryBytes else None)) ≡ None → long ≡ false
    by true h = absurd (no_quantity quantities.FileBytes h)
    by false h = refl

pub within : (counted : Counted) → passed_of counted ≡ None → counted.bytes ≤ most_library_bytes
within counted e = by counted.long (ltb most_library_bytes counted.bytes) refl e
  where
    by : (long over : Bool) → ltb most_library_bytes counted.bytes ≡ over → (if long then Some quantities.FileBytes else (if over then Some quantities.LibraryBytes else None)) ≡ None → counted.bytes ≤ most_library_bytes
    by true over o h = absurd (no_quantity quantities.FileBytes h)
    by false true o h = absurd (no_quantity quantities.LibraryBytes h)
    by false false o h = let n = ltb-false most_library_bytes counted.bytes o in omega arith

-- where a file was counted and no limit passes, it isn't too long
pub short_after : (size : ℕ) (before : Counted) → passed_of (counted_after size before) ≡ None → size ≤ most_file_bytes
short_after size before e = by (ltb most_file_bytes size) refl e
  where
    by : (long : Bool) → ltb most_file_bytes size ≡ long → passed_of (if long then record { bytes = before.bytes; long = true } else record { bytes = before.bytes + size; long = false }) ≡ None → size ≤ most_file_bytes
    by true l h = absurd (no_quantity quantities.FileBytes h)
    by false l h = let n = ltb-false most_file_bytes size l in omega arith

-- ---- files that have no bytes, and those of which a front was read

same_counted : (x y : Counted) → x.bytes ≡ y.bytes → x.long ≡ y.long → x ≡ y
same_counted x y p q = λ i. record { bytes = p i; long = q i }

pub nothing_counted : (before : Counted) → passed_of before ≡ None → counted_after 0 before ≡ before
nothing_counted before e = same_counted (record { bytes = before.bytes + 0; long = false }) before (omega arith) (sym (not_long before e))

-- a front of a long file counts as the file
front_counted : (front whole : ℕ) (before : Counted) → (front ≡ whole) ⊎ ((most_file_bytes < front) × (most_file_bytes < whole)) → counted_after front before ≡ counted_after whole before
front_counted front whole before (inl e) = ap (λ (n : ℕ). counted_after n before) e
front_counted front whole before (inr h) =
    let x : ltb most_file_bytes front ≡ true = lt-ltb most_file_bytes front h.0 in
    let y : ltb most_file_bytes whole ≡ true = lt-ltb most_file_bytes whole h.1 in
    ap (λ (b : Bool). if b then record { bytes = before.bytes; long = true } else record { bytes = before.bytes + front; long = false }) x
    ∙ sym (ap (λ (b : Bool). if b then record { bytes = before.bytes; long = true } else record { bytes = before.bytes + whole; long = false }) y)

front_or_whole : (whole : List ℕ) → (length (take most_read whole) ≡ length whole) ⊎ ((most_file_bytes < length (take most_read whole)) × (most_file_bytes < length whole))
front_or_whole whole = by (ltb most_file_bytes (length whole)) refl
  where
    by : (b : Bool) → ltb most_file_bytes (length whole) ≡ b → (length (take most_read whole) ≡ length whole) ⊎ ((most_file_bytes < length (take most_read whole)) × (most_file_bytes < length whole))
    by true e = let lt = ltb-true most_file_bytes (length whole) e in let n = length-take most_read whole in inr (omega arith, lt)
    by false e = let ge = ltb-false most_file_bytes (length whole) e in let n = length-take most_read whole in inl (omega arith)

size_by : (o : Option (List ℕ)) (front : List ℕ) (before : Counted) → Some front ≡ option_map (take most_read) o → counted_after (length front) before ≡ counted_after (length (unwrap_or o [])) before
size_by None front before e = absurd cc
size_by (Some whole) front before e =
    let is : front ≡ take most_read whole = cc in
    ap (λ (xs : List ℕ). counted_after (length xs) before) is ∙ front_counted (length (take most_read whole)) (length whole) before (front_or_whole whole)

-- where a file counts, its size is that of its bytes
size_there : (files : List HostFile) (root name : List ℕ) → is_module_info (file_of name) ≡ false → size_of files root name ≡ length (unwrap_or (bytes_of files root (file_of name)) [])
size_there files root name counts = ap (λ (b : Bool). if b then 0 else length (unwrap_or (bytes_of files root (file_of name)) [])) counts

-- what is counted for an answer
for_answer : (answered : Bool) (n m : ℕ) (before : Counted) → counted_after n before ≡ counted_after m before → counted_for answered n before ≡ counted_for answered m before
for_answer answered n m before e = ap (λ (c : Counted). if answered then (if is_some (passed_of before) then before else c) else before) e

pub counted_front : (told : Option (List HostFile)) (root name front : List ℕ) (answered : Bool) (before after : Counted) → is_module_info (file_of name) ≡ false
    → IfSome told (λ files. Some front ≡ option_map (take most_read) (bytes_of files root (file_of name))) → after ≡ counted_for answered (length front) before
    → IfSome told (λ files. after ≡ counted_for answered (size_of files root name) before)
counted_front None root name front answered before after counts gives is = tt
counted_front (Some files) root name front answered before after counts gives is =
    is ∙ for_answer answered (length front) (size_of files root name) before
    (size_by (bytes_of files root (file_of name)) front before gives ∙ ap (λ (n : ℕ). counted_after n before) (sym (size_there files root name counts)))

-- an answer for which nothing is counted
none_for : (size : ℕ) (before : Counted) → passed_of before ≡ None → size ≡ 0 → before ≡ counted_for true size before
none_for size before e zero_is =
    sym (ap (λ (q : Option Quantity). if is_some q then before else counted_after size before) e ∙ ap (λ (n : ℕ). counted_after n before) zero_is ∙ nothing_counted before e)

nothing_there : (o : Option (List ℕ)) → None ≡ option_map (take most_read) o → length (unwrap_or o []) ≡ 0
nothing_there None e = refl
nothing_there (Some whole) e = absurd cc

pub counted_absent : (told : Option (List HostFile)) (root name : List ℕ) (before : Counted) → is_module_info (file_of name) ≡ false → passed_of before ≡ None
    → IfSome told (λ files. None ≡ option_map (take most_read) (bytes_of files root (file_of name))) → IfSome told (λ files. before ≡ counted_for true (size_of files root name) before)
counted_absent None root name before counts e gives = tt
counted_absent (Some files) root name before counts e gives =
    none_for (size_of files root name) before e (size_there files root name counts ∙ nothing_there (bytes_of files root (file_of name)) gives)

pub counted_module : (told : Option (List HostFile)) (root name : List ℕ) (before : Counted) → is_module_info (file_of name) ≡ true → passed_of before ≡ None
    → IfSome told (λ files. before ≡ counted_for true (size_of files root name) before)
counted_module None root name before is e = tt
counted_module (Some files) root name before is e =
    none_for (size_of files root name) before e (ap (λ (b : Bool). if b then 0 else length (unwrap_or (bytes_of files root (file_of name)) [])) is)

-- a refused call counts nothing
pub counted_refused : (told : Option (List HostFile)) (root name : List ℕ) (before : Counted) → IfSome told (λ files. before ≡ counted_for false (size_of files root name) before)
counted_refused None root name before = tt
counted_refused (Some files) root name before = refl

-- once a limit has passed nothing more is counted
pub counted_past : (told : Option (List HostFile)) (root name : List ℕ) (before : Counted) (quantity : Quantity) → passed_of before ≡ Some quantity → IfSome told (λ files. before ≡ counted_for true (size_of files root name) before)
counted_past None root name before quantity e = tt
counted_past (Some files) root name before quantity e = sym (ap (λ (q : Option Quantity). if is_some q then before else counted_after (size_of files root name) before) e)

-- ---- names that are answered one after the other

pub counted_none : (files : List HostFile) (root : List ℕ) → AreCounted files root [] (record { bytes = 0; long = false })
counted_none files root = record { one_long = λ e. absurd cc; no_more = omega arith; none_long = λ e. refl; all = λ e. refl }

module _ (files : List HostFile) (root name : List ℕ) (names : List (List ℕ)) (before : Counted) (h : AreCounted files root names before) where
  sum_more : sum_by (size_of files root) (names ++ name ∷ []) ≡ sum_by (size_of files root) names + size_of files root name
  sum_more = let e = sum_by-append (size_of files root) names (name ∷ []) in omega arith

  any_more : list_any (is_long files root) (names ++ name ∷ []) ≡ (list_any (is_long files root) names || list_any (is_long files root) (name ∷ []))
  any_more = list_any-append (is_long files root) names (name ∷ [])

  still_long : list_any (is_long files root) names ≡ true → list_any (is_long files root) (names ++ name ∷ []) ≡ true
  still_long e = any_more ∙ or_left (list_any (is_long files root) names) (list_any (is_long files root) (name ∷ [])) e

  past : (quantity : Quantity) → passed_of before ≡ Some quantity → AreCounted files root (names ++ name ∷ []) before
  past quantity passed = record {
    one_long = λ e. still_long (h.one_long e);
    no_more = let le = h.no_more in let s = sum_more in omega arith;
    none_long = λ e. absurd (no_quantity quantity (sym passed ∙ e));
    all = λ e. absurd (no_quantity quantity (sym passed ∙ e));
  }

  one_more : passed_of before ≡ None → (long : Bool) → is_long files root name ≡ long
      → AreCounted files root (names ++ name ∷ []) (if long then record { bytes = before.bytes; long = true } else record { bytes = before.bytes + size_of files root name; long = false })
  one_more none true is = record {
    one_long = λ e. any_more ∙ or_right (list_any (is_long files root) names) (list_any (is_long files root) (name ∷ [])) (or_left (is_long files root name) false is);
    no_more = let le = h.no_more in let s = sum_more in omega arith;
    none_long = λ e. absurd (no_quantity quantities.FileBytes e);
    all = λ e. absurd (no_quantity quantities.FileBytes e);
  }
  one_more none false is = record {
    one_long = λ e. absurd cc;
    no_more = let e = h.all none in let s = sum_more in omega arith;
    none_long = λ e. any_more ∙ or_from (list_any (is_long files root) names) (list_any (is_long files root) (name ∷ [])) (h.none_long none) (or_from (is_long files root name) false is refl);
    all = λ e. let all = h.all none in let s = sum_more in omega arith;
  }

  answered_by : (passed : Option Quantity) → passed_of before ≡ passed → AreCounted files root (names ++ name ∷ []) (if is_some passed then before else counted_after (size_of files root name) before)
  answered_by (Some quantity) e = past quantity e
  answered_by None e = one_more e (is_long files root name) refl

  counted_next : (answered : Bool) → AreCounted files root (if answered then names ++ name ∷ [] else names) (counted_for answered (size_of files root name) before)
  counted_next true = answered_by (passed_of before) refl
  counted_next false = h

pub counted_step : (told : Option (List HostFile)) (root name : List ℕ) (names : List (List ℕ)) (answered : Bool) (before after : Counted)
    → IfSome told (λ files. AreCounted files root names before) → IfSome told (λ files. after ≡ counted_for answered (size_of files root name) before)
    → IfSome told (λ files. AreCounted files root (if answered then names ++ name ∷ [] else names) after)
counted_step None root name names answered before after h is = tt
counted_step (Some files) root name names answered before after h is =
    subst (λ (c : Counted). AreCounted files root (if answered then names ++ name ∷ [] else names) c) (sym is) (counted_next files root name names before h answered)
