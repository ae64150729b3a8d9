-- Adding lines to a set: one line, one after another, and none; the lines of facts one by one.
use Rattle.std.proofs.Common.{◌≡◌, ℕ, ◌+◌, ◌<◌, ◌≤◌, ◌⊎◌, ◌↔◌, true, false, List, [], ◌∷◌, length, get_or, take, Contains, Some, None, refl, sym, ◌∙◌, inl, inr, ⊎_elim, arith}
use Rattle.std.specs.Ordering.{nat_cmp}
use Rattle.std.specs.Cmp.Lexicographic.{slice_cmp, nat_list_cmp_total}
use Rattle.std.specs.BTreeMap.{is_at}
use Rattle.std.specs.BTreeSet.{BTreeSet, IsOrdered, contains, Updates}
use Rattle.std.proofs.lemmas.Bool.{cases_Bool, cond-true}
use Rattle.std.proofs.lemmas.List.{take_all, take_more}
use Rattle.std.proofs.lemmas.List.Elements.{Contains-append_left, Contains-push, Contains-push_cases}
use Rattle.std.proofs.lemmas.Option.{none-some, same_Some}
use Rattle.std.proofs.lemmas.Map.Keys.{Less-from_sorted}
use Rattle.std.proofs.lemmas.Map.Lookups.{exact_bytes}
use Rattle.std.proofs.lemmas.Map.Views.{btree_set_contains_iff, tells_apart}
use Rattle.jv_types.specs.declared.fact.Fact.{Fact}
use Rattle.calls_form.specs.declared.object_class.ObjectClass.{ObjectClass}
use Rattle.calls_lines.specs.First.Lines.{HasLine, IsLine, AreLines}
use Rattle.calls_lines.specs.First.Adding.{IsTextOf, AddsLines}

-- nothing is added
pub AddsLines-none : (P : List ℕ → Type 0) (lines : List (List ℕ)) → ((line : List ℕ) → P line → ⊥) → AddsLines P lines lines
AddsLines-none P lines none = record {
  sorted = λ h. h;
  exact = λ line. (λ h. inl h, λ h. ⊎_elim (λ old. old) (λ new. absurd (none line new)) h);
}

-- the same lines under another name
pub AddsLines-same : (P Q : List ℕ → Type 0) (a b : List (List ℕ)) → ((line : List ℕ) → P line → Q line) → ((line : List ℕ) → Q line → P line)
    → AddsLines P a b → AddsLines Q a b
AddsLines-same P Q a b into from adds = record {
  sorted = adds.sorted;
  exact = λ line. (
    λ h. ⊎_elim (λ old. inl old) (λ new. inr (into line new)) ((adds.exact line).0 h),
    λ h. (adds.exact line).1 (⊎_elim (λ old. inl old) (λ new. inr (from line new)) h),
  );
}

-- some lines after others
pub AddsLines-then : (P Q : List ℕ → Type 0) (a b c : List (List ℕ)) → AddsLines P a b → AddsLines Q b c → AddsLines (λ line. P line ⊎ Q line) a c
AddsLines-then P Q a b c first second = record {
  sorted = λ h. second.sorted (first.sorted h);
  exact = λ line. (
    λ h. ⊎_elim (λ mid. ⊎_elim (λ old. inl old) (λ x. inr (inl x)) ((first.exact line).0 mid)) (λ y. inr (inr y)) ((second.exact line).0 h),
    λ h. ⊎_elim
        (λ old. (second.exact line).1 (inl ((first.exact line).1 (inl old))))
        (λ new. ⊎_elim (λ x. (second.exact line).1 (inl ((first.exact line).1 (inr x)))) (λ y. (second.exact line).1 (inr y)) new)
        h,
  );
}

-- one line, as a set takes it
module _ (old new : BTreeSet (List ℕ)) (key : List ℕ) (ordered : IsOrdered (slice_cmp nat_cmp) new) (updates : Updates (slice_cmp nat_cmp) old new key true) where
  in_new : (line : List ℕ) → Contains new.keys line → contains (slice_cmp nat_cmp) new line ≡ true
  in_new line h = (btree_set_contains_iff nat_list_cmp_total exact_bytes new line).1 h

  in_old : (line : List ℕ) → Contains old.keys line → contains (slice_cmp nat_cmp) old line ≡ true
  in_old line h = (btree_set_contains_iff nat_list_cmp_total exact_bytes old line).1 h

  from_new : (line : List ℕ) → Contains new.keys line → Contains old.keys line ⊎ (line ≡ key)
  from_new line h =
      ⊎_elim
      (λ (same : is_at (slice_cmp nat_cmp key) line ≡ true). inr (sym (tells_apart exact_bytes key line same)))
      (λ (other : is_at (slice_cmp nat_cmp key) line ≡ false).
      inl ((btree_set_contains_iff nat_list_cmp_total exact_bytes old line).0 (sym (updates.2 line other) ∙ in_new line h)))
      (cases_Bool (is_at (slice_cmp nat_cmp key) line))

  from_old : (line : List ℕ) → Contains old.keys line → Contains new.keys line
  from_old line h =
      (btree_set_contains_iff nat_list_cmp_total exact_bytes new line).0
      (⊎_elim
      (λ (same : is_at (slice_cmp nat_cmp key) line ≡ true). updates.0 line ∙ cond-true _ true _ same)
      (λ (other : is_at (slice_cmp nat_cmp key) line ≡ false). updates.2 line other ∙ in_old line h)
      (cases_Bool (is_at (slice_cmp nat_cmp key) line)))

  has_key : Contains new.keys key
  has_key = (btree_set_contains_iff nat_list_cmp_total exact_bytes new key).0 updates.1

  pub AddsLines-insert : AddsLines (λ line. line ≡ key) old.keys new.keys
  AddsLines-insert = record {
    sorted = λ _ i j d before within. Less-from_sorted (slice_cmp nat_cmp) new.keys i j d ordered before within;
    exact = λ line. (from_new line, λ h. ⊎_elim (λ old_line. from_old line old_line) (λ (same : line ≡ key). rw same has_key) h);
  }

-- the one line of P
pub AddsLines-text : (P : List ℕ → Type 0) (text : List ℕ) (a b : List (List ℕ)) → IsTextOf P (Some text) → AddsLines (λ line. line ≡ text) a b → AddsLines P a b
AddsLines-text P text a b is adds =
    AddsLines-same (λ line. line ≡ text) P a b
    (λ line (same : line ≡ text). rw same ((is.exact text).1 refl))
    (λ line has. sym (same_Some text line ((is.exact line).0 has)))
    adds

-- no line
pub AddsLines-no_text : (P : List ℕ → Type 0) (lines : List (List ℕ)) → IsTextOf P None → AddsLines P lines lines
AddsLines-no_text P lines is = AddsLines-none P lines (λ line has. none-some line ((is.exact line).0 has))

module _ (class : ObjectClass) (facts : List Fact) where
  -- no fact yet
  pub AddsLines-no_fact : (lines : List (List ℕ)) → AddsLines (IsLine class (Contains [])) lines lines
  AddsLines-no_fact lines = AddsLines-none (IsLine class (Contains [])) lines (λ line has. absurd (omega (arith, has.1.1)))

  -- one more fact
  pub AddsLines-more : (i : ℕ) (d : Fact) (a b c : List (List ℕ)) → i < length facts
      → AddsLines (IsLine class (Contains (take i facts))) a b → AddsLines (HasLine class (get_or facts i d)) b c
      → AddsLines (IsLine class (Contains (take (i + 1) facts))) a c
  AddsLines-more i d a b c below first second =
      AddsLines-same (λ line. IsLine class (Contains (take i facts)) line ⊎ HasLine class (get_or facts i d) line) (IsLine class (Contains (take (i + 1) facts))) a c
      (λ line has.
      rw (take_more facts i d below) (
      ⊎_elim
      (λ old. (old.0, Contains-append_left (take i facts) (get_or facts i d ∷ []) old.0 old.1, old.2))
      (λ new. (get_or facts i d, Contains-push (take i facts) (get_or facts i d), new))
      has))
      (λ line has.
      ⊎_elim
      (λ old. inl (has.0, old, has.2))
      (λ (same : get_or facts i d ≡ has.0). inr (rw same has.2))
      (Contains-push_cases (take i facts) (get_or facts i d) has.0 (rw (take_more facts i d below) at has.1)))
      (AddsLines-then (IsLine class (Contains (take i facts))) (HasLine class (get_or facts i d)) a b c first second)

  -- all facts
  pub AreLines-all : (i : ℕ) (lines : List (List ℕ)) → length facts ≤ i → AddsLines (IsLine class (Contains (take i facts))) [] lines → AreLines class (Contains facts) lines
  AreLines-all i lines past adds =
      let adds_all : AddsLines (IsLine class (Contains facts)) [] lines = rw (take_all i facts past) at adds in
      record {
        sorted = adds_all.sorted (λ i j d before within. absurd (omega (arith, within)));
        exact = λ line. (
          λ h. ⊎_elim (λ old. absurd (omega (arith, old.1))) (λ new. new) ((adds_all.exact line).0 h),
          λ h. (adds_all.exact line).1 (inr h),
        );
      }

-- the same facts under another name
pub AreLines-same : (class : ObjectClass) (P Q : Fact → Type 0) (lines : List (List ℕ)) → ((fact : Fact) → P fact ↔ Q fact) → AreLines class P lines → AreLines class Q lines
AreLines-same class P Q lines same are = record {
  sorted = are.sorted;
  exact = λ line. (
    λ h. let has = (are.exact line).0 h in (has.0, (same has.0).0 has.1, has.2),
    λ has. (are.exact line).1 (has.0, (same has.0).1 has.1, has.2),
  );
}
