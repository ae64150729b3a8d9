-- Files are noted at the numbers of their classes.
use Rattle.std.proofs.Common.{◌≡◌, ℕ, ◌+◌, ◌<◌, ◌≤◌, ◌⊎◌, inl, inr, zero, suc, List, [], ◌∷◌, ◌++◌, Option, None, Some, length, slice_get, set, get_or, Contains, refl, sym, ap, ◌∙◌, subst, arith}
use Rattle.std.proofs.lemmas.Bool.{cases_lt, cases_eq}
use Rattle.std.proofs.lemmas.List.{length-set, get_or-set_same, get_or-set_other}
use Rattle.std.proofs.lemmas.Option.{slice_get-get_or, slice_get_past, slice_get_within, same_Some}
use Rattle.std.specs.Cmp.Lexicographic.{slice_cmp, nat_list_cmp_total}
use Rattle.std.specs.Ordering.{nat_cmp}
use Rattle.jv_fix.specs.Order.{IsSet}
use Rattle.jv_resolve.proofs.PlacesLemmas.{among_from_get}
use Rattle.av_collected.proofs.Lists.{at_place}
use Rattle.av_collected.specs.Libraries.{LibraryFile}
use Rattle.av_tables.specs.Steps.{ArePlacesBelow}
use Rattle.av_tables.specs.Tables.{ArePlaces}
use Rattle.av_tables.proofs.Rising.{one_place}

pub at_set : {X : Type 0} (l : List X) (i : ℕ) (a : X) → i < length l → slice_get (set l i a) i ≡ Some a
at_set {X} l i a h = slice_get-get_or (set l i a) i a (omega (arith, length-set l i a, h)) ∙ ap (λ (x : X). Some x) (get_or-set_same l i a a h)

pub past_set : {X : Type 0} (l : List X) (i j : ℕ) (a : X) → (j ≡ i → ⊥) → slice_get (set l i a) j ≡ slice_get l j
past_set {X} l i j a apart =
    elim (cases_lt j (length l)) [
      | inl lt ↦ slice_get-get_or (set l i a) j a (omega (arith, length-set l i a, lt)) ∙ ap (λ (x : X). Some x) (get_or-set_other l i j a a apart) ∙ sym (slice_get-get_or l j a lt)
      | inr ge ↦ slice_get_past (set l i a) j (omega (arith, length-set l i a, ge)) ∙ sym (slice_get_past l j ge)
    ]

-- one more of the same
pub all_are : {X : Type 0} (xs : List X) (x : X) → ((c : ℕ) (y : X) → slice_get xs c ≡ Some y → y ≡ x) → (c : ℕ) (y : X) → slice_get (xs ++ x ∷ []) c ≡ Some y → y ≡ x
all_are [] x h zero y e = sym (same_Some x y e)
all_are [] x h (suc c) y e = absurd cc
all_are (z ∷ zs) x h zero y e = h zero y e
all_are (z ∷ zs) x h (suc c) y e = all_are zs x (λ d w f. h (suc d) w f) c y e

pub none_placed : (names : List (List ℕ)) (files : List LibraryFile) (places : List (Option ℕ)) → length places ≡ length names
    → ((c : ℕ) (place : Option ℕ) → slice_get places c ≡ Some place → place ≡ None) → ArePlacesBelow 0 names files places
none_placed names files places count none = record {
  count = count;
  there = λ c place at. (let is : Some place ≡ None = none c (Some place) at in absurd cc);
  all = λ c place file below. absurd (omega (arith, below));
}

module _ (names : List (List ℕ)) (files : List LibraryFile) (at : ℕ) (file : LibraryFile) (set_names : IsSet (slice_cmp nat_cmp) names) (here : slice_get files at ≡ Some file)
    (old : List (Option ℕ)) (before : ArePlacesBelow at names files old) where
  -- a file whose class has no number
  pub left_out : (Contains names file.name → ⊥) → ArePlacesBelow (at + 1) names files old
  left_out nowhere = record {
    count = before.count;
    there = before.there;
    all = λ c place other below there named.
        elim (cases_eq place at) [
          | inl same ↦ absurd (nowhere (among_from_get names c file.name (subst (λ (f : LibraryFile). slice_get names c ≡ Some f.name) (is_file place other same there) named)))
          | inr apart ↦ before.all c place other (omega (arith, below, apart)) there named
        ];
  }
    where
      is_file : (place : ℕ) (other : LibraryFile) → place ≡ at → slice_get files place ≡ Some other → other ≡ file
      is_file place other same there = same_Some other file (sym there ∙ ap (slice_get files) same ∙ here)

  -- a file that is noted
  pub noted : (class : ℕ) → slice_get names class ≡ Some file.name → ArePlacesBelow (at + 1) names files (set old class (Some at))
  noted class named = record {
    count = length-set old class (Some at) ∙ before.count;
    there = λ c place placed.
        elim (cases_eq c class) [
          | inl same ↦ (
              let is : Some at ≡ Some place = same_Some (Some at) (Some place) (sym (at_set old class (Some at) within) ∙ ap (slice_get (set old class (Some at))) (sym same) ∙ placed) in
              (file, ap (slice_get files) (sym (same_Some at place is)) ∙ here, ap (slice_get names) same ∙ named)
              )
          | inr apart ↦ before.there c place (sym (past_set old class c (Some at) apart) ∙ placed)
        ];
    all = λ c place other below there other_named.
        elim (cases_eq c class) [
          | inl same ↦ (at, ap (slice_get (set old class (Some at))) same ∙ at_set old class (Some at) within)
          | inr apart ↦ elim (cases_eq place at) [
            | inl last ↦ absurd (apart (one_place nat_list_cmp_total names set_names c class file.name (subst (λ (f : LibraryFile). slice_get names c ≡ Some f.name) (same_Some other file (sym there ∙ ap (slice_get files) last ∙ here)) other_named) named))
            | inr earlier ↦ (let was = before.all c place other (omega (arith, below, earlier)) there other_named in (was.0, past_set old class c (Some at) apart ∙ was.1))
          ]
        ];
  }
    where
      within : class < length old
      within = let w : class < length names = slice_get_within names class file.name named in omega (arith, w, before.count)

pub all_placed : (names : List (List ℕ)) (files : List LibraryFile) (n : ℕ) (places : List (Option ℕ)) → length files ≤ n → ArePlacesBelow n names files places → ArePlaces names files places
all_placed names files n places past h = record {
  count = h.count;
  there = h.there;
  all = λ c file has named. h.all c has.0 file (omega (arith, has.1, past)) (at_place files file has) named;
}
