-- Lists of classes by rising numbers.
use Rattle.std.proofs.Common.{◌≡◌, ℕ, ◌+◌, ◌<◌, ◌≤◌, false, List, length, map, get_or, Contains, Ok, Err, Result, IsTrue, is_ok, refl, ap, subst, ⊎_elim, arith}
use Rattle.std.specs.List.Sorted.{IsStrictlyIncreasing, IsBinarySearchResult, IsSearchInRange, IsSortedBy}
use Rattle.std.specs.Cmp.{ranks, nat_cmp_total}
use Rattle.std.specs.Ordering.{nat_cmp, is_lt, MatchOrdering}
use Rattle.std.specs.declared.cmp.Ordering.{Ordering}
use Rattle.std.specs.declared.cmp.Ordering.TheVariants.{Less, Equal, Greater}
use Rattle.std.proofs.lemmas.Bool.{cases_lt, false≢true}
use Rattle.std.proofs.lemmas.List.{get_or-map, length-map}
use Rattle.std.proofs.lemmas.List.Sorted.{searchable_from_sorted}
use Rattle.jv_types.specs.declared.ids.ClassId.{ClassId}

-- what a comparison of numbers says
pub ranked : (x y : ℕ) (r : Ordering) → nat_cmp x y ≡ r → MatchOrdering r (x < y) (x ≡ y) (y < x)
ranked x y r e = subst (λ k. MatchOrdering k (x < y) (x ≡ y) (y < x)) e (ranks x y)

not_lt : (a b : ℕ) → b ≤ a → is_lt (nat_cmp a b) ≡ false
not_lt a b h = by (nat_cmp a b) (ranks a b)
  where
    by : (r : Ordering) → MatchOrdering r (a < b) (a ≡ b) (b < a) → is_lt r ≡ false
    by Less lt = absurd (omega arith)
    by Equal same = refl
    by Greater gt = refl

rises : (ds : List ClassId) → IsStrictlyIncreasing (map (λ d. d.number) ds) → (k : ℕ) (e : ClassId) → k + 1 < length ds → (get_or ds k e).number < (get_or ds (k + 1) e).number
rises ds rising k e below =
    let number : ClassId → ℕ = λ d. d.number in
    let low = get_or-map number ds k e 0 (omega arith) in
    let high = get_or-map number ds (k + 1) e 0 below in
    omega (arith, rising k (omega (arith, length-map ds number)), low, high)

in_order : (ds : List ClassId) → IsStrictlyIncreasing (map (λ d. d.number) ds) → IsSortedBy (λ (a b : ClassId). is_lt (nat_cmp a.number b.number)) ds
in_order ds rising k e from below =
    not_lt (get_or ds (k + 1) e).number (get_or ds k e).number (omega (arith, rises ds rising k e below))

-- what a binary search for a class answers
pub searched : (ds : List ClassId) (d : ClassId) (r : Result ℕ ℕ) → IsStrictlyIncreasing (map (λ d. d.number) ds) → IsSearchInRange r (length ds)
    → IsBinarySearchResult (λ y. nat_cmp y.number d.number) ds r → (IsTrue (is_ok r) → Contains ds d) × (Contains ds d → IsTrue (is_ok r))
searched ds d (Ok i) rising range is =
    (λ _. (i, range, ap (λ (n : ℕ). let made : ClassId = record { number = n } in made) (ranked (get_or ds i d).number d.number Equal (is d))), λ _. refl)
searched ds d (Err i) rising range is =
    let parts = is (searchable_from_sorted nat_cmp_total (λ (y : ClassId). y.number) ds d.number (in_order ds rising)) in (
      λ h. absurd (false≢true h),
      λ found.
          ⊎_elim
          (λ (low : found.0 < i).
          let less = ranked (get_or ds found.0 d).number d.number Less (parts.0 found.0 d (omega arith) low) in
          absurd (omega (arith, less, ap (λ (y : ClassId). y.number) found.2)))
          (λ (high : i ≤ found.0).
          let greater = ranked (get_or ds found.0 d).number d.number Greater (parts.1 found.0 d high found.1) in
          absurd (omega (arith, greater, ap (λ (y : ClassId). y.number) found.2)))
          (cases_lt found.0 i),
    )
