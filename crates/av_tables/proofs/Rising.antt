-- Rising lists, and the places in them.
use Rattle.std.proofs.Common.{◌≡◌, ℕ, ◌<◌, ◌≤◌, ◌⊎◌, inl, inr, true, List, Option, Some, None, Result, Ok, Err, length, slice_get, get_or, Contains, Equal, Less, refl, sym, ap, ◌∙◌, subst, arith}
use Rattle.std.specs.Prelude.{is_ok}
use Rattle.std.proofs.lemmas.Bool.{and_parts, cases_lt}
use Rattle.std.proofs.lemmas.Option.{slice_get-get_or, get_or_from_slice_get, slice_get_within, same_Some}
use Rattle.std.specs.Cmp.{IsTotalOrder, tied_itself}
use Rattle.std.specs.Cmp.Lexicographic.{slice_cmp}
use Rattle.std.specs.Ordering.{nat_cmp}
use Rattle.std.specs.declared.cmp.Ordering.{Ordering}
use Rattle.std.specs.List.Sorted.{IsBinarySearchResult, IsSearchInRange}
use Rattle.jv_equality.proofs.Exact.{Exact, text_ties, texts_exact, told_apart, ties_told}
use Rattle.jv_equality.proofs.PlainTypes.{method_desc_exact}
use Rattle.jv_fix.specs.Order.{IsSet, TellsApart}
use Rattle.jv_fix.proofs.Rising.{below_at, found_iff}
use Rattle.av_tables.specs.declared.signature.Signature.{Signature}
use Rattle.av_tables.specs.contracts.signature.SignaturePartialEq as signature_per
use Rattle.av_tables.specs.contracts.signature.SignatureEq as signature_eq
use Rattle.av_tables.specs.contracts.signature.SignatureOrd as signature_ord

pub names_apart : TellsApart (slice_cmp nat_cmp)
names_apart x y e = (text_ties x y).0 e

signature_exact : Exact signature_per.TheImpl.ghosts.eq
signature_exact x y e =
    let both = and_parts _ _ e in
    λ i. record { name = texts_exact x.name y.name both.0 i; desc = method_desc_exact x.desc y.desc both.1 i }

pub signatures_apart : TellsApart signature_ord.TheImpl.ghosts.cmp
signatures_apart x y e =
    (ties_told signature_ord.TheImpl.ghosts.cmp (told_apart signature_exact signature_eq.TheImpl.Laws.laws-law) signature_ord.TheImpl.Laws.matches_eq-law x y).0 e

module _ {X : Type 0} {cmp : X → X → Ordering} (total : IsTotalOrder cmp) where
  -- what a search by halves finds
  pub place_found : (rows : List X) (row : X) (r : Result ℕ ℕ) (i : ℕ) → r ≡ Ok i → IsSet cmp rows → IsSearchInRange r (length rows) → IsBinarySearchResult (λ y. cmp y row) rows r
      → slice_get rows i ≡ Some row
  place_found rows row r i is set bound position =
      let within : i < length rows = subst (λ (q : Result ℕ ℕ). IsSearchInRange q (length rows)) is bound in
      let held = subst (λ (q : Result ℕ ℕ). IsBinarySearchResult (λ y. cmp y row) rows q) is position in
      slice_get-get_or rows i row within ∙ ap (λ (x : X). Some x) (set.exact (get_or rows i row) row (held row))

  pub place_none : (rows : List X) (row : X) (r : Result ℕ ℕ) (i : ℕ) → r ≡ Err i → IsSet cmp rows → IsSearchInRange r (length rows) → IsBinarySearchResult (λ y. cmp y row) rows r
      → Contains rows row → ⊥
  place_none rows row r i is set bound position h =
      let ok : is_ok r ≡ true = (found_iff total rows row r set bound position).1 h in
      absurd cc

  rises_apart : (rows : List X) → IsSet cmp rows → (c d : ℕ) (x : X) → slice_get rows c ≡ Some x → slice_get rows d ≡ Some x → c < d → ⊥
  rises_apart rows set c d x p q lt =
      let within : d < length rows = slice_get_within rows d x q in
      let less = below_at total rows c d x set.rising lt within in
      let first : get_or rows c x ≡ x = get_or_from_slice_get rows c x x p in
      let second : get_or rows d x ≡ x = get_or_from_slice_get rows d x x q in
      let tied : cmp x x ≡ Equal = tied_itself total x in
      let under : cmp x x ≡ Less = ap (λ (n : X). cmp n x) (sym first) ∙ ap (cmp (get_or rows c x)) (sym second) ∙ less in
      let clash : Equal ≡ Less = sym tied ∙ under in
      absurd cc

  -- an element of a rising list has one place
  pub one_place : (rows : List X) → IsSet cmp rows → (c d : ℕ) (x : X) → slice_get rows c ≡ Some x → slice_get rows d ≡ Some x → c ≡ d
  one_place rows set c d x p q =
      elim (cases_lt c d) [
        | inl lt ↦ absurd (rises_apart rows set c d x p q lt)
        | inr ge ↦ elim (cases_lt d c) [
          | inl gt ↦ absurd (rises_apart rows set d c x q p gt)
          | inr le ↦ omega (arith, ge, le)
        ]
      ]
