-- What a sort leaves once like neighbours are dropped.
use Rattle.std.proofs.Common.{◌≡◌, ℕ, Bool, true, List, [], ◌∷◌, map, Contains, sym, subst, ap, ◌∙◌, refl}
use Rattle.std.specs.List.{Any, AllByRecursion, dedup}
use Rattle.std.specs.List.Retain.{DiffersFromLast, IsFiltered}
use Rattle.std.specs.List.Sorted.{IsPermutation, IsSorted, IsStrictlySortedBy}
use Rattle.std.specs.declared.cmp.Ordering.{Ordering}
use Rattle.std.specs.declared.cmp.Ordering.TheVariants.{Less, Equal, Greater}
use Rattle.std.specs.Ordering.{eq_by_cmp, ordering_then}
use Rattle.std.specs.Cmp.{IsEquivalence, IsTotalOrder}
use Rattle.std.specs.Cmp.Lexicographic.{texts_ties, pointwise}
use Rattle.std.specs.Prelude.{nat_eq}
use Rattle.std.proofs.lemmas.List.Filters.{dedup_is}
use Rattle.std.proofs.lemmas.List.Kept.{Any-dedup, Contains-dedup, Contains-from_dedup, IsStrictlySortedBy-dedup}
use Rattle.std.proofs.lemmas.List.Sorted.{Contains-permutation, IsPermutation-sym}
use Rattle.std.proofs.lemmas.Map.Lookups.{exact_bytes}
use Rattle.std.proofs.lemmas.Map.Views.{tells_apart}
use Rattle.av_standin_of.specs.Names.{name_order, member_order}
use Rattle.av_sorted.specs.declared.row.Row.{Row}
use Rattle.av_sorted.specs.Orders.{row_key, row_cmp, HasKey}

module _ {X : Type 0} {E : X → X → Bool} (given sorted kept : List X) (shuffled : IsPermutation given sorted) (filtered : IsFiltered (DiffersFromLast E) [] sorted kept) where
  left : kept ≡ dedup E sorted
  left = dedup_is E sorted kept filtered

  pub all_rise : {R : X → X → Ordering} (o : IsTotalOrder R) → ((x y : X) → E x y ≡ eq_by_cmp R x y) → IsSorted R sorted → IsStrictlySortedBy R kept
  all_rise {R} o ties up = subst (IsStrictlySortedBy R) (sym left) (IsStrictlySortedBy-dedup o ties sorted up)

  pub only_given : (x : X) → Contains kept x → Contains given x
  only_given x has = Contains-permutation sorted given x (IsPermutation-sym given sorted shuffled) (Contains-from_dedup E sorted x (subst (λ (xs : List X). Contains xs x) left has))

  pub each_given : IsEquivalence E → (x : X) → Contains given x → Any (λ (y : X). E x y ≡ true) kept
  each_given e x has = subst (Any (λ (y : X). E x y ≡ true)) (sym left) (Any-dedup e sorted x (Contains-permutation given sorted x shuffled has))

  pub each_kept : IsEquivalence E → ((x y : X) → E x y ≡ true → x ≡ y) → (x : X) → Contains given x → Contains kept x
  each_kept e exact x has = subst (λ (xs : List X). Contains xs x) (sym left) (Contains-dedup e exact sorted x (Contains-permutation given sorted x shuffled has))

-- ---- names

pub names_exact : (x y : List ℕ) → pointwise nat_eq x y ≡ true → x ≡ y
names_exact x y same = tells_apart exact_bytes x y (sym (texts_ties x y) ∙ same)

-- ---- rows

then_equal : (r s : Ordering) → ordering_then r s ≡ Equal → (r ≡ Equal) × (s ≡ Equal)
then_equal Equal s is = (refl, is)
then_equal Less s is = absurd cc
then_equal Greater s is = absurd cc

keys_exact : (a b : List ℕ × List ℕ) → member_order a b ≡ Equal → a ≡ b
keys_exact a b is =
    let both = then_equal (name_order a.0 b.0) (name_order a.1 b.1) is in
    ap (λ (name : List ℕ). (name, a.1)) (exact_bytes a.0 b.0 both.0) ∙ ap (λ (desc : List ℕ). (b.0, desc)) (exact_bytes a.1 b.1 both.1)

pub rows_like : {T : Type 0} (x y : Row T) → eq_by_cmp row_cmp x y ≡ true → row_key x ≡ row_key y
rows_like x y same = tells_apart keys_exact (row_key x) (row_key y) same

pub has_key : {T : Type 0} (rows : List (Row T)) (x : Row T) → Any (λ (y : Row T). eq_by_cmp row_cmp x y ≡ true) rows → HasKey row_key rows (row_key x)
has_key rows x (k, y, lt, is, same) = (y, (k, lt, is), sym (rows_like x y same))

keys_above : {T : Type 0} (x : Row T) (rows : List (Row T)) → AllByRecursion (λ (y : Row T). row_cmp x y ≡ Less) rows → AllByRecursion (λ (k : List ℕ × List ℕ). member_order (row_key x) k ≡ Less) (map row_key rows)
keys_above x [] all = all
keys_above x (y ∷ rows) all = (all.0, keys_above x rows all.1)

pub keys_rise : {T : Type 0} (rows : List (Row T)) → IsStrictlySortedBy row_cmp rows → IsStrictlySortedBy member_order (map row_key rows)
unfolding IsStrictlySortedBy
keys_rise [] rise = rise
keys_rise (x ∷ rows) rise = (keys_above x rows rise.0, keys_rise rows rise.1)
