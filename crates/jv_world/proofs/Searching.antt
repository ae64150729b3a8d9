-- The search for what links lead to.
use Rattle.std.proofs.Common.{◌≡◌, ◌≢◌, ℕ, ◌+◌, ◌<◌, ◌≤◌, Bool, false, IsTrue, List, [], ◌∷◌, ◌++◌, length, map, set, get_or, Contains, Some, nat_eq, slice_get, IsPermutation, IsSorted, refl, sym, ap, ◌∙◌, subst, ⊎_elim, arith}
use Rattle.std.specs.List.{IsDistinct}
use Rattle.std.specs.List.Sorted.{IsStrictlyIncreasing}
use Rattle.std.specs.Ordering.{nat_cmp}
use Rattle.std.specs.declared.alloc.Global.{Global}
use Rattle.std.specs.declared.vec.Vec.{Vec}
use Rattle.std.proofs.lemmas.Bool.{cases_lt, false≢true, eq-eqb}
use Rattle.std.proofs.lemmas.List.{get_or-set_same, get_or-set_other, get_or-map, length-map, length_push}
use Rattle.std.proofs.lemmas.List.Elements.{Contains-append_left, Contains-get_or}
use Rattle.std.proofs.lemmas.Option.{none-some, same_Some, slice_get-get_or}
use Rattle.std.proofs.lemmas.List.Sorted.{Contains-permutation, IsPermutation-sym, IsPermutation-map}
use Rattle.std.proofs.lemmas.Map.Keys.{IsDistinct-from_apart, IsDistinct-IsPermutation, apart_from_distinct, ge_from_not_lt}
use Rattle.std.specs.Cmp.{nat_eq_equiv}
use Rattle.jv_lists.proofs.Places.{slice_get-front}
use Rattle.jv_types.specs.declared.ids.ClassId.{ClassId}
use Rattle.jv_world.specs.Steps.Building.{Has, IsLinked, IsLedTo, straight, onward, IsClear, IsFound, marked, IsMarking, AddsAll, AreLed, AreLedFrom}
use Rattle.jv_world.proofs.Marking.{marked_below, AddsAll-same}
use Rattle.jv_world.proofs.Linking.{slice_get-push}

-- the links of a class, by its row
pub row_there : (links : List (Vec ClassId Global)) (c : ℕ) (row : Vec ClassId Global) → c < length links → row ≡ get_or links c row → slice_get links c ≡ Some row
row_there links c row below is = slice_get-get_or links c row below ∙ ap Some (sym is)

pub AddsAll-links : (links : List (Vec ClassId Global)) (c : ℕ) (row : Vec ClassId Global) (a : List Bool) (af : List ClassId) (b : List Bool) (bf : List ClassId)
    → slice_get links c ≡ Some row → AddsAll (Has row.items) a af b bf → AddsAll (IsLinked links c) a af b bf
AddsAll-links links c row a af b bf at adds =
    AddsAll-same (Has row.items) (IsLinked links c) a af b bf
    (λ n h. (row, at, h))
    (λ n linked. let P : Vec ClassId Global → Type 0 = λ v. Has v.items n in subst P (same_Some linked.0 row (sym linked.1 ∙ at)) linked.2) adds

-- one link more at the end
IsLedTo-more : (links : List (Vec ClassId Global)) (c m d : ℕ) → IsLedTo links c m → IsLinked links m d → IsLedTo links c d
IsLedTo-more links c m d (straight _ _ first) last = onward c m d first (straight m d last)
IsLedTo-more links c m d (onward _ k _ first rest) last = onward c k d first (IsLedTo-more links k m d rest last)

-- the classes found lead from c, and those before the place have their links followed
pub record IsSearch (links : List (Vec ClassId Global)) (c : ℕ) (marks : List Bool) (found : List ClassId) (i : ℕ) : Type 0 where
  pub marking : IsMarking marks found
  pub count : length marks ≡ length links
  pub roots : (d : ℕ) → IsLinked links c d → Has found d
  pub inside : (d : ℕ) → Has found d → IsLedTo links c d
  pub followed : (k : ℕ) (e : ClassId) → k < i → slice_get found k ≡ Some e → (d : ℕ) → IsLinked links e.number d → Has found d

pub IsSearch-start : (links : List (Vec ClassId Global)) (c : ℕ) (marks : List Bool) (found : List ClassId) (new_marks : List Bool) (new_found : List ClassId)
    → IsClear links marks found → AddsAll (IsLinked links c) marks found new_marks new_found → IsSearch links c new_marks new_found 0
IsSearch-start links c marks found new_marks new_found clear adds = record {
  marking = adds.marking;
  count = adds.count ∙ clear.count;
  roots = adds.all;
  inside = λ d h.
      ⊎_elim
      (λ old. let P : List ClassId → Type 0 = λ l. Has l d in let none = subst P clear.empty old in absurd (omega (arith, none.1)))
      (λ new. straight c d new)
      (adds.only d h);
  followed = λ k e before. absurd (omega (arith, before));
}

pub IsSearch-step : (links : List (Vec ClassId Global)) (c : ℕ) (marks : List Bool) (found : List ClassId) (new_marks : List Bool) (new_found : List ClassId) (i : ℕ) (next : ClassId)
    → i < length found → next ≡ get_or found i next → AddsAll (IsLinked links next.number) marks found new_marks new_found → IsSearch links c marks found i
    → IsSearch links c new_marks new_found (i + 1)
IsSearch-step links c marks found new_marks new_found i next below is adds done = record {
  marking = adds.marking;
  count = adds.count ∙ done.count;
  roots = λ d h. kept d (done.roots d h);
  inside = λ d h.
      ⊎_elim
      (λ old. done.inside d old)
      (λ new. IsLedTo-more links c next.number d (done.inside next.number here) new)
      (adds.only d h);
  followed = λ k e before at d linked.
      let P : List ClassId → Type 0 = λ l. slice_get l k ≡ Some e in
      let at_front : slice_get found k ≡ Some e = sym (slice_get-front found adds.more k (omega (arith, before, below))) ∙ subst P adds.grown at in
      ⊎_elim
      (λ (early : k < i). kept d (done.followed k e early at_front d linked))
      (λ (late : i ≤ k).
      let same_place : k ≡ i = omega (arith, before, late) in
      let same_class : e ≡ next = same_Some e next (sym at_front ∙ ap (slice_get found) same_place ∙ slice_get-get_or found i next below ∙ ap Some (sym is)) in
      let Q : ClassId → Type 0 = λ x. IsLinked links x.number d in
      adds.all d (subst Q same_class linked))
      (cases_lt k i);
}
  where
    kept : (d : ℕ) → Has found d → Has new_found d
    kept d h = let P : List ClassId → Type 0 = λ l. Has l d in subst P (sym adds.grown) (Contains-append_left found adds.more (record { number = d }) h)

    here : Has found next.number
    here = let P : ClassId → Type 0 = λ x. Contains found x in subst P (sym is) (Contains-get_or found i next below)

-- what a link of a class found leads to is found
next_found : (links : List (Vec ClassId Global)) (c : ℕ) (marks : List Bool) (found : List ClassId) (i : ℕ) → length found ≤ i → IsSearch links c marks found i
    → (m d : ℕ) → Has found m → IsLinked links m d → Has found d
next_found links c marks found i past done m d has linked =
    done.followed has.0 (record { number = m }) (omega (arith, has.1, past)) (slice_get-get_or found has.0 (record { number = m }) has.1 ∙ ap Some has.2) d linked

led : (links : List (Vec ClassId Global)) (c : ℕ) (marks : List Bool) (found : List ClassId) (i : ℕ) → length found ≤ i → IsSearch links c marks found i
    → (m d : ℕ) → Has found m → IsLedTo links m d → Has found d
led links c marks found i past done m d has (straight _ _ first) = next_found links c marks found i past done m d has first
led links c marks found i past done m d has (onward _ k _ first rest) =
    led links c marks found i past done k d (next_found links c marks found i past done m k has first) rest

pub IsFound-search : (links : List (Vec ClassId Global)) (c : ℕ) (marks : List Bool) (found : List ClassId) (i : ℕ) → length found ≤ i → IsSearch links c marks found i → IsFound links c marks found
IsFound-search links c marks found i past done = record {
  marking = done.marking;
  count = done.count;
  all = λ d h. from d h;
  only = done.inside;
}
  where
    from : (d : ℕ) → IsLedTo links c d → Has found d
    from d (straight _ _ first) = done.roots d first
    from d (onward _ k _ first rest) = led links c marks found i past done k d (done.roots k first) rest

-- while marks are taken away: what is still marked stands later in the list
pub record IsUnmarked (found : List ClassId) (i : ℕ) (marks : List Bool) : Type 0 where
  pub found_once : (n : ℕ) → IsTrue (marked marks n) → Has found n
  pub later : (n : ℕ) → IsTrue (marked marks n) → (k : ℕ) (e : ClassId) → k < i → slice_get found k ≡ Some e → e.number ≢ n

pub IsUnmarked-start : (found : List ClassId) (marks : List Bool) → IsMarking marks found → IsUnmarked found 0 marks
IsUnmarked-start found marks marking = record { found_once = marking.into; later = λ n h k e before. absurd (omega (arith, before)) }

pub IsUnmarked-step : (found : List ClassId) (i : ℕ) (marks : List Bool) (class : ClassId) → i < length found → class ≡ get_or found i class → class.number < length marks
    → IsUnmarked found i marks → IsUnmarked found (i + 1) (set marks class.number false)
IsUnmarked-step found i marks class below is here so_far = record {
  found_once = λ n h. so_far.found_once n (was n h);
  later = λ n h k e before at same.
      ⊎_elim
      (λ (early : k < i). so_far.later n (was n h) k e early at same)
      (λ (late : i ≤ k).
      let same_place : k ≡ i = omega (arith, before, late) in
      let same_class : e ≡ class = same_Some e class (sym at ∙ ap (slice_get found) same_place ∙ slice_get-get_or found i class below ∙ ap Some (sym is)) in
      other n h (sym same ∙ ap (λ (x : ClassId). x.number) same_class))
      (cases_lt k i);
}
  where
    other : (n : ℕ) → IsTrue (marked (set marks class.number false) n) → n ≡ class.number → ⊥
    other n h same = let P : ℕ → Type 0 = λ k. IsTrue (marked (set marks class.number false) k) in
        false≢true (sym (get_or-set_same marks class.number false false here) ∙ subst P same h)

    was : (n : ℕ) → IsTrue (marked (set marks class.number false) n) → IsTrue (marked marks n)
    was n h = sym (get_or-set_other marks class.number n false false (other n h)) ∙ h

pub none_marked : (found : List ClassId) (i : ℕ) (marks : List Bool) → length found ≤ i → IsUnmarked found i marks → (n : ℕ) → IsTrue (marked marks n) → ⊥
none_marked found i marks past so_far n h =
    let has = so_far.found_once n h in
    so_far.later n h has.0 (record { number = n }) (omega (arith, has.1, past)) (slice_get-get_or found has.0 (record { number = n }) has.1 ∙ ap Some has.2) refl

-- no marks
pub IsMarking-none : (marks : List Bool) (found : List ClassId) → found ≡ [] → ((n : ℕ) → IsTrue (marked marks n) → ⊥) → IsMarking marks found
IsMarking-none marks found empty none =
    let P : List ClassId → Type 0 = λ l. IsMarking marks l in
    subst P (sym empty)
    (record {
      into = λ n h. absurd (none n h);
      from = λ n h. absurd (omega (arith, h.1));
      distinct = IsDistinct-from_apart nat_eq [] (λ i j d before below. absurd (omega (arith, below)));
    })

-- the order of the classes found says nothing of the marks
pub IsMarking-permutation : (marks : List Bool) (found sorted : List ClassId) → IsPermutation found sorted → IsMarking marks found → IsMarking marks sorted
IsMarking-permutation marks found sorted moved marking = record {
  into = λ n h. Contains-permutation found sorted (record { number = n }) moved (marking.into n h);
  from = λ n h. marking.from n (Contains-permutation sorted found (record { number = n }) (IsPermutation-sym found sorted moved) h);
  distinct = IsDistinct-IsPermutation nat_eq nat_eq_equiv.symm numbers_found numbers_sorted (IsPermutation-map (λ (d : ClassId). d.number) found sorted moved) marking.distinct;
}
  where
    numbers_found : List ℕ
    numbers_found = map (λ (d : ClassId). d.number) found

    numbers_sorted : List ℕ
    numbers_sorted = map (λ (d : ClassId). d.number) sorted

-- classes that differ rise once they are sorted
rising : (sorted : List ClassId) → IsSorted (λ a b. nat_cmp a.number b.number) sorted → IsDistinct nat_eq (map (λ d. d.number) sorted) → IsStrictlyIncreasing (map (λ d. d.number) sorted)
rising sorted in_order distinct k below =
    let number : ClassId → ℕ = λ d. d.number in
    let e : ClassId = record { number = 0 } in
    let within : k + 1 < length sorted = omega (arith, below, length-map sorted number) in
    let low = get_or-map number sorted k e 0 (omega (arith, within)) in
    let high = get_or-map number sorted (k + 1) e 0 within in
    let le = ge_from_not_lt (get_or sorted (k + 1) e).number (get_or sorted k e).number (in_order k e (omega arith) within) in
    let apart : nat_eq (get_or (map number sorted) k 0) (get_or (map number sorted) (k + 1) 0) ≡ false = apart_from_distinct nat_eq (map number sorted) k (k + 1) 0 distinct (omega arith) below in
    let differ : (get_or (map number sorted) k 0 ≡ get_or (map number sorted) (k + 1) 0) → ⊥ =
    λ same. false≢true (sym apart ∙ eq-eqb (get_or (map number sorted) k 0) (get_or (map number sorted) (k + 1) 0) same) in
    omega (arith, low, high, le, differ)

-- what was found, sorted
pub AreLed-sorted : (links : List (Vec ClassId Global)) (c : ℕ) (marks : List Bool) (found sorted : List ClassId) → IsFound links c marks found → IsPermutation found sorted
    → IsSorted (λ a b. nat_cmp a.number b.number) sorted → AreLed links c sorted
AreLed-sorted links c marks found sorted is moved in_order = record {
  all = λ d h. Contains-permutation found sorted (record { number = d }) moved (is.all d h);
  only = λ d h. is.only d (Contains-permutation sorted found (record { number = d }) (IsPermutation-sym found sorted moved) h);
  rising = rising sorted in_order (IsMarking-permutation marks found sorted moved is.marking).distinct;
}

-- one row more
pub AreLedFrom-more : (links : List (Vec ClassId Global)) (n : ℕ) (rows new_rows : List (Vec ClassId Global)) (row : Vec ClassId Global) → AreLed links n row.items → new_rows ≡ rows ++ row ∷ []
    → AreLedFrom links n rows → AreLedFrom links (n + 1) new_rows
AreLedFrom-more links n rows new_rows row led_row grown so_far =
    let P : List (Vec ClassId Global) → Type 0 = λ l. AreLedFrom links (n + 1) l in
    subst P (sym grown)
    (record {
      count = omega (arith, so_far.count, length_push rows row);
      rows_are = λ c r at.
          ⊎_elim
          (λ before. so_far.rows_are c r before)
          (λ (last : (c ≡ length rows) × (r ≡ row)).
          let Q : ℕ → Type 0 = λ m. AreLed links m r.items in
          let R : Vec ClassId Global → Type 0 = λ v. AreLed links n v.items in
          subst Q (sym (last.0 ∙ so_far.count)) (subst R (sym last.1) led_row))
          (slice_get-push rows row c r at);
    })

-- a class found is one of the list
pub found_below : (links : List (Vec ClassId Global)) (c : ℕ) (marks : List Bool) (found : List ClassId) (i : ℕ) (next : ClassId) → i < length found → next ≡ get_or found i next
    → IsSearch links c marks found i → next.number < length links
found_below links c marks found i next below is done =
    let P : ClassId → Type 0 = λ x. Contains found x in
    let here = marked_below marks next.number (done.marking.from next.number (subst P (sym is) (Contains-get_or found i next below))) in
    omega (arith, here, done.count)

pub AreLedFrom-none : (links rows : List (Vec ClassId Global)) → rows ≡ [] → AreLedFrom links 0 rows
AreLedFrom-none links rows empty = record {
  count = ap length empty;
  rows_are = λ c row at. absurd (none-some row (ap (λ (l : List (Vec ClassId Global)). slice_get l c) (sym empty) ∙ at));
}
