-- Marking classes: one, one after another, and none.
use Rattle.std.proofs.Common.{◌≡◌, ℕ, ◌+◌, ◌<◌, ◌≤◌, ◌⊎◌, Bool, true, false, IsTrue, List, [], ◌∷◌, ◌++◌, append-nil, append_assoc, length, map, set, take, get_or, nat_eq, refl, sym, ap, ◌∙◌, subst, inl, inr, ⊎_elim, arith}
use Rattle.std.specs.List.{IsDistinct, list_any}
use Rattle.std.specs.Cmp.{nat_eq_equiv}
use Rattle.std.proofs.lemmas.Bool.{cases_eq, cases_lt, false≢true, eqb-true}
use Rattle.std.proofs.lemmas.List.{length-set, get_or-set_same, get_or-set_other, get_or_read, map_push, get_or_past, get_or_default, length-map}
use Rattle.std.proofs.lemmas.List.Elements.{Contains-append_left, Contains-push}
use Rattle.std.proofs.lemmas.Map.Keys.{IsDistinct-push}
use Rattle.std.proofs.lemmas.Map.Steps.{length-le_from_distinct_below}
use Rattle.std.proofs.lemmas.Map.Views.{Contains-from_any}
use Rattle.jv_types.specs.declared.ids.ClassId.{ClassId}
use Rattle.jv_world.specs.Steps.Building.{Has, marked, IsMarking, AddsAll}
use Rattle.jv_world.proofs.Choices.{by_bool}
use Rattle.jv_world.proofs.Linking.{Has-push, Contains-take_cases, Contains-take_kept, Contains-take_new}
use Rattle.jv_world.proofs.Ranking.{Contains-class}

-- what is marked is a class of the list
pub marked_below : (marks : List Bool) (n : ℕ) → IsTrue (marked marks n) → n < length marks
marked_below marks n h =
    ⊎_elim
    (λ (below : n < length marks). below)
    (λ (past : length marks ≤ n). absurd (false≢true (sym (get_or_past marks n false past) ∙ h)))
    (cases_lt n (length marks))

pub marked-read : (marks : List Bool) (n : ℕ) (mark : Bool) → n < length marks → mark ≡ get_or marks n mark → marked marks n ≡ mark
marked-read marks n mark below read = sym (get_or_read marks n mark below read false)

-- no more classes are found than there are marks
pub found_few : (marks : List Bool) (found : List ClassId) → IsMarking marks found → length found ≤ length marks
found_few marks found marking =
    let numbers : List ℕ = map (λ (d : ClassId). d.number) found in
    let within = length-le_from_distinct_below numbers (length marks) marking.distinct
    (λ q member. marked_below marks q (marking.from q (Contains-class found q (Contains-from_any (λ x y h. eqb-true x y h) q numbers member)))) in
    omega (arith, within, length-map found (λ (d : ClassId). d.number))

-- classes that are found already
pub AddsAll-already : (P : ℕ → Type 0) (marks : List Bool) (found : List ClassId) → IsMarking marks found → ((n : ℕ) → P n → Has found n) → AddsAll P marks found marks found
AddsAll-already P marks found marking already = record {
  marking = marking;
  count = refl;
  more = [];
  grown = sym (append-nil found);
  all = already;
  only = λ n h. inl h;
}

-- one class that isn't found yet
pub AddsAll-one : (marks : List Bool) (found new : List ClassId) (class : ClassId) → IsMarking marks found → class.number < length marks → marked marks class.number ≡ false
    → new ≡ found ++ class ∷ [] → AddsAll (λ n. n ≡ class.number) marks found (set marks class.number true) new
AddsAll-one marks found new class marking below fresh grown =
    let n = class.number in
    let numbers : List ℕ = map (λ (d : ClassId). d.number) found in
    let P : List ClassId → Type 0 = λ l. AddsAll (λ m. m ≡ n) marks found (set marks n true) l in
    let unmarked : list_any (nat_eq n) numbers ≡ false =
    by_bool (list_any (nat_eq n) numbers)
    (λ member. absurd (false≢true (sym fresh ∙ marking.from n (Contains-class found n (Contains-from_any (λ x y h. eqb-true x y h) n numbers member)))))
    (λ none. none) in
    let D : List ℕ → Type 0 = λ l. IsDistinct nat_eq l in
    subst P (sym grown)
    (record {
      marking = record {
        into = λ m h.
            ⊎_elim
            (λ (same : m ≡ n). let Q : ℕ → Type 0 = λ k. Has (found ++ class ∷ []) k in subst Q (sym same) (Contains-push found class))
            (λ (other : m ≡ n → ⊥). Contains-append_left found (class ∷ []) (record { number = m }) (marking.into m (sym (get_or-set_other marks n m true false other) ∙ h)))
            (cases_eq m n);
        from = λ m h.
            ⊎_elim
            (λ (same : m ≡ n). let Q : ℕ → Type 0 = λ k. IsTrue (marked (set marks n true) k) in subst Q (sym same) (get_or-set_same marks n true false below))
            (λ (other : m ≡ n → ⊥). get_or-set_other marks n m true false other ∙ marking.from m (⊎_elim (λ old. old) (λ same. absurd (other same)) (Has-push found m n h)))
            (cases_eq m n);
        distinct = subst D (sym (map_push (λ (d : ClassId). d.number) found class)) (IsDistinct-push nat_eq_equiv numbers n marking.distinct unmarked);
      };
      count = length-set marks n true;
      more = class ∷ [];
      grown = refl;
      all = λ m same. let Q : ℕ → Type 0 = λ k. Has (found ++ class ∷ []) k in subst Q (sym same) (Contains-push found class);
      only = λ m h. Has-push found m n h;
    })

-- the same classes under another name
pub AddsAll-same : (P Q : ℕ → Type 0) (marks : List Bool) (found : List ClassId) (new_marks : List Bool) (new_found : List ClassId)
    → ((n : ℕ) → P n → Q n) → ((n : ℕ) → Q n → P n) → AddsAll P marks found new_marks new_found → AddsAll Q marks found new_marks new_found
AddsAll-same P Q marks found new_marks new_found into back a = record {
  marking = a.marking;
  count = a.count;
  more = a.more;
  grown = a.grown;
  all = λ n h. a.all n (back n h);
  only = λ n h. ⊎_elim (λ old. inl old) (λ new. inr (into n new)) (a.only n h);
}

-- one marking after another
pub AddsAll-then : (P Q : ℕ → Type 0) (a : List Bool) (af : List ClassId) (b : List Bool) (bf : List ClassId) (c : List Bool) (cf : List ClassId)
    → AddsAll P a af b bf → AddsAll Q b bf c cf → AddsAll (λ n. P n ⊎ Q n) a af c cf
AddsAll-then P Q a af b bf c cf first second = record {
  marking = second.marking;
  count = second.count ∙ first.count;
  more = first.more ++ second.more;
  grown = second.grown ∙ ap (λ (l : List ClassId). l ++ second.more) first.grown ∙ append_assoc af first.more second.more;
  all = λ n h. ⊎_elim (λ x. kept n (first.all n x)) (λ y. second.all n y) h;
  only = λ n h. ⊎_elim (λ mid. ⊎_elim (λ old. inl old) (λ x. inr (inl x)) (first.only n mid)) (λ y. inr (inr y)) (second.only n h);
}
  where
    kept : (n : ℕ) → Has bf n → Has cf n
    kept n h = let P : List ClassId → Type 0 = λ l. Has l n in subst P (sym second.grown) (Contains-append_left bf second.more (record { number = n }) h)

-- one class of a list more
pub AddsAll-more : (row : List ClassId) (i : ℕ) (e : ClassId) (a : List Bool) (af : List ClassId) (b : List Bool) (bf : List ClassId) (c : List Bool) (cf : List ClassId)
    → i < length row → AddsAll (Has (take i row)) a af b bf → AddsAll (λ n. n ≡ (get_or row i e).number) b bf c cf → AddsAll (Has (take (i + 1) row)) a af c cf
AddsAll-more row i e a af b bf c cf below first second =
    let item = get_or row i e in
    let read = get_or_default row i e item below in
    AddsAll-same (λ n. Has (take i row) n ⊎ (n ≡ item.number)) (Has (take (i + 1) row)) a af c cf
    (λ n h.
    ⊎_elim
    (λ before. Contains-take_kept row i (record { number = n }) item below before)
    (λ same. let Q : ℕ → Type 0 = λ k. Has (take (i + 1) row) k in subst Q (sym same) (Contains-take_new row i item below read)) h)
    (λ n h. ⊎_elim (λ before. inl before) (λ same. inr (ap (λ (d : ClassId). d.number) same)) (Contains-take_cases row i (record { number = n }) item below read h))
    (AddsAll-then (Has (take i row)) (λ n. n ≡ item.number) a af b bf c cf first second)
