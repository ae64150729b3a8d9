-- Adding lines to a set: none, one line, and the lines of one after another.
use Rattle.std.proofs.Common.{◌≡◌, ℕ, ◌+◌, ◌<◌, ◌≤◌, ◌⊎◌, ◌↔◌, true, false, List, [], ◌∷◌, length, get_or, take, Contains, sym, subst, ◌∙◌, inl, inr, ⊎_elim, arith}
use Rattle.std.specs.Ordering.{nat_cmp}
use Rattle.std.specs.Cmp.Lexicographic.{slice_cmp, nat_list_cmp_total}
use Rattle.std.specs.BTreeMap.{is_at}
use Rattle.std.specs.BTreeSet.{BTreeSet, IsOrdered, contains, Updates}
use Rattle.std.proofs.lemmas.Bool.{cases_Bool, cond-true}
use Rattle.std.proofs.lemmas.List.{take_all, take_more}
use Rattle.std.proofs.lemmas.List.Elements.{Contains-append_left, Contains-push, Contains-push_cases}
use Rattle.std.proofs.lemmas.Map.Keys.{Less-from_sorted}
use Rattle.std.proofs.lemmas.Map.Lookups.{exact_bytes}
use Rattle.std.proofs.lemmas.Map.Views.{btree_set_contains_iff, tells_apart}
use Rattle.jv_types.specs.declared.shapes.MethodShape.{MethodShape}
use Rattle.jv_types.specs.declared.shapes.Shape.{Shape}
use Rattle.av_verified.specs.Lines.{AreVerifiedLines, IsClassLine, IsMethodLine, method_line}
use Rattle.av_verified.specs.Steps.Adding.{AddsLines, IsLineOf}

-- nothing is added
pub AddsLines-none : (P : List ℕ → Type 0) (lines : List (List ℕ)) → ((line : List ℕ) → P line → ⊥) → AddsLines P lines lines
AddsLines-none P lines none = record {
  sorted = λ h. h;
  exact = λ line. (λ h. inl h, λ h. ⊎_elim (λ old. old) (λ new. absurd (none line new)) h);
}

-- the same lines under another name
pub AddsLines-same : (P Q : List ℕ → Type 0) (a b : List (List ℕ)) → ((line : List ℕ) → P line → Q line) → ((line : List ℕ) → Q line → P line)
    → AddsLines P a b → AddsLines Q a b
AddsLines-same P Q a b into from adds = record {
  sorted = adds.sorted;
  exact = λ line. (
    λ h. ⊎_elim (λ old. inl old) (λ new. inr (into line new)) ((adds.exact line).0 h),
    λ h. (adds.exact line).1 (⊎_elim (λ old. inl old) (λ new. inr (from line new)) h),
  );
}

-- some lines after others
pub AddsLines-then : (P Q : List ℕ → Type 0) (a b c : List (List ℕ)) → AddsLines P a b → AddsLines Q b c → AddsLines (λ line. P line ⊎ Q line) a c
AddsLines-then P Q a b c first second = record {
  sorted = λ h. second.sorted (first.sorted h);
  exact = λ line. (
    λ h. ⊎_elim (λ mid. ⊎_elim (λ old. inl old) (λ x. inr (inl x)) ((first.exact line).0 mid)) (λ y. inr (inr y)) ((second.exact line).0 h),
    λ h. ⊎_elim
        (λ old. (second.exact line).1 (inl ((first.exact line).1 (inl old))))
        (λ new. ⊎_elim (λ x. (second.exact line).1 (inl ((first.exact line).1 (inr x)))) (λ y. (second.exact line).1 (inr y)) new)
        h,
  );
}

-- one line, as a set takes it
module _ (old new : BTreeSet (List ℕ)) (key : List ℕ) (ordered : IsOrdered (slice_cmp nat_cmp) new) (updates : Updates (slice_cmp nat_cmp) old new key true) where
  in_new : (line : List ℕ) → Contains new.keys line → contains (slice_cmp nat_cmp) new line ≡ true
  in_new line h = (btree_set_contains_iff nat_list_cmp_total exact_bytes new line).1 h

  in_old : (line : List ℕ) → Contains old.keys line → contains (slice_cmp nat_cmp) old line ≡ true
  in_old line h = (btree_set_contains_iff nat_list_cmp_total exact_bytes old line).1 h

  from_new : (line : List ℕ) → Contains new.keys line → Contains old.keys line ⊎ (line ≡ key)
  from_new line h =
      ⊎_elim
      (λ (same : is_at (slice_cmp nat_cmp key) line ≡ true). inr (sym (tells_apart exact_bytes key line same)))
      (λ (other : is_at (slice_cmp nat_cmp key) line ≡ false).
      inl ((btree_set_contains_iff nat_list_cmp_total exact_bytes old line).0 (sym (updates.2 line other) ∙ in_new line h)))
      (cases_Bool (is_at (slice_cmp nat_cmp key) line))

  from_old : (line : List ℕ) → Contains old.keys line → Contains new.keys line
  from_old line h =
      (btree_set_contains_iff nat_list_cmp_total exact_bytes new line).0
      (⊎_elim
      (λ (same : is_at (slice_cmp nat_cmp key) line ≡ true). updates.0 line ∙ cond-true _ true _ same)
      (λ (other : is_at (slice_cmp nat_cmp key) line ≡ false). updates.2 line other ∙ in_old line h)
      (cases_Bool (is_at (slice_cmp nat_cmp key) line)))

  has_key : Contains new.keys key
  has_key = (btree_set_contains_iff nat_list_cmp_total exact_bytes new key).0 updates.1

  pub AddsLines-insert : AddsLines (λ line. line ≡ key) old.keys new.keys
  AddsLines-insert = record {
    sorted = λ _ i j d before within. Less-from_sorted (slice_cmp nat_cmp) new.keys i j d ordered before within;
    exact = λ line. (from_new line, λ h. ⊎_elim (λ old_line. from_old line old_line) (λ (same : line ≡ key). rw same has_key) h);
  }

module _ {X : Type 0} (P : X → List ℕ → Type 0) (items : List X) where
  -- none yet
  pub AddsLines-first : (lines : List (List ℕ)) → AddsLines (IsLineOf P (take 0 items)) lines lines
  AddsLines-first lines = AddsLines-none (IsLineOf P (take 0 items)) lines (λ line has. absurd (omega (arith, has.1.1)))

  -- one more
  more : (i : ℕ) (x : X) (a b c : List (List ℕ)) → i < length items
      → AddsLines (IsLineOf P (take i items)) a b → AddsLines (P (get_or items i x)) b c
      → AddsLines (IsLineOf P (take (i + 1) items)) a c
  more i x a b c below first second =
      AddsLines-same (λ line. IsLineOf P (take i items) line ⊎ P (get_or items i x) line) (IsLineOf P (take (i + 1) items)) a c
      (λ line has.
      rw (take_more items i x below) (
      ⊎_elim
      (λ old. (old.0, Contains-append_left (take i items) (get_or items i x ∷ []) old.0 old.1, old.2))
      (λ new. (get_or items i x, Contains-push (take i items) (get_or items i x), new))
      has))
      (λ line has.
      ⊎_elim
      (λ old. inl (has.0, old, has.2))
      (λ (same : get_or items i x ≡ has.0). inr (rw same has.2))
      (Contains-push_cases (take i items) (get_or items i x) has.0 (rw (take_more items i x below) at has.1)))
      (AddsLines-then (IsLineOf P (take i items)) (P (get_or items i x)) a b c first second)

  pub AddsLines-more : (i : ℕ) (x : X) (a b c : List (List ℕ)) → i < length items → x ≡ get_or items i x
      → AddsLines (IsLineOf P (take i items)) a b → AddsLines (P x) b c → AddsLines (IsLineOf P (take (i + 1) items)) a c
  AddsLines-more i x a b c below is first second = more i x a b c below first (subst (λ (y : X). AddsLines (P y) b c) is second)

  -- all
  pub AddsLines-all : (i : ℕ) (a b : List (List ℕ)) → length items ≤ i → AddsLines (IsLineOf P (take i items)) a b → AddsLines (IsLineOf P items) a b
  AddsLines-all i a b past adds = rw (take_all i items past) at adds

-- the lines of all classes
pub are_verified : (world items : List Shape) (i : ℕ) (lines : List (List ℕ)) → items ≡ world → length items ≤ i
    → AddsLines (IsLineOf IsClassLine (take i items)) [] lines → AreVerifiedLines world lines
are_verified world items i lines same past adds =
    let all : AddsLines (IsLineOf IsClassLine world) [] lines =
    subst (λ (w : List Shape). AddsLines (IsLineOf IsClassLine w) [] lines) same (AddsLines-all IsClassLine items i [] lines past adds) in
    record {
      sorted = all.sorted (λ i j d before within. absurd (omega (arith, within)));
      exact = λ line. (
        λ h. ⊎_elim (λ old. absurd (omega (arith, old.1))) (λ new. new) ((all.exact line).0 h),
        λ h. (all.exact line).1 (inr h),
      );
    }

-- the line of a method that has code
pub method_lines : (class : List ℕ) (method : MethodShape) (text : List ℕ) (a b : List (List ℕ)) → method.code ≡ true → text ≡ method_line class method
    → AddsLines (λ line. line ≡ text) a b → AddsLines (IsMethodLine class method) a b
method_lines class method text a b code is adds =
    AddsLines-same (λ line. line ≡ text) (IsMethodLine class method) a b (λ line same. (code, same ∙ is)) (λ line has. has.1 ∙ sym is) adds

-- the lines of the methods of a class of the application
pub class_lines : (class : Shape) (items : List MethodShape) (a b : List (List ℕ)) → class.application ≡ true → items ≡ class.methods
    → AddsLines (IsLineOf (IsMethodLine class.name) items) a b → AddsLines (IsClassLine class) a b
class_lines class items a b app same adds =
    AddsLines-same (IsLineOf (IsMethodLine class.name) items) (IsClassLine class) a b
    (λ line has. (app, has.0, subst (λ (xs : List MethodShape). Contains xs has.0) same has.1, has.2))
    (λ line has. (has.1, subst (λ (xs : List MethodShape). Contains xs has.1) (sym same) has.2, has.3))
    adds
