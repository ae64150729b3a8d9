-- There is one list at most of just the values that have a property, in rising order.
use Rattle.std.proofs.Common.{◌≡◌, List, [], ◌∷◌, map, Contains, refl, sym, ap, ◌∙◌, subst, ⊎_elim}
use Rattle.std.specs.Cmp.{IsTotalOrder}
use Rattle.std.specs.Ordering.{ordering_reverse}
use Rattle.std.specs.declared.cmp.Ordering.{Ordering}
use Rattle.std.specs.declared.cmp.Ordering.TheVariants.{Less, Equal, Greater}
use Rattle.std.specs.List.Sorted.{IsStrictlySortedBy}
use Rattle.std.proofs.lemmas.Map.Keys.{sorted_head, sorted_tail}
use Rattle.jv_lists.proofs.Among.{first_or_later, is_first, is_later, mapped_to, none_there, of_each}
use Rattle.av_standin_of.specs.Lists.{AreJust}

never_both : (o : Ordering) → o ≡ ordering_reverse Less → o ≡ Less → ⊥
never_both Less p q = absurd cc
never_both Equal p q = absurd cc
never_both Greater p q = absurd cc

module _ {X K : Type 0} (order : K → K → Ordering) (total : IsTotalOrder order) (key : X → K) where
  not_round : (x y : X) → order (key x) (key y) ≡ Less → order (key y) (key x) ≡ Less → ⊥
  not_round x y up back = never_both (order (key x) (key y)) (total.antisymm (key x) (key y) ∙ ap ordering_reverse back) up

  behind : (x : X) (xs : List X) → IsStrictlySortedBy order (map key (x ∷ xs)) → (y : X) → Contains xs y → order (key x) (key y) ≡ Less
  behind x xs up y has = of_each (λ (k : K). order (key x) k ≡ Less) (map key xs) (key y) (sorted_head order (key x) (map key xs) up) (mapped_to key xs y has)

  same_heads : (x y : X) (xs ys : List X) → IsStrictlySortedBy order (map key (x ∷ xs)) → IsStrictlySortedBy order (map key (y ∷ ys))
      → Contains (y ∷ ys) x → Contains (x ∷ xs) y → x ≡ y
  same_heads x y xs ys up rises there here =
      ⊎_elim
      (λ same. sym same)
      (λ later. ⊎_elim (λ same. same) (λ also. absurd (not_round x y (behind x xs up y also) (behind y ys rises x later))) (first_or_later x xs y here))
      (first_or_later y ys x there)

  same_rest : (x y : X) (xs ys : List X) → x ≡ y → IsStrictlySortedBy order (map key (x ∷ xs))
      → ((z : X) → Contains (x ∷ xs) z → Contains (y ∷ ys) z) → (z : X) → Contains xs z → Contains ys z
  same_rest x y xs ys heads up into z has =
      let less = behind x xs up z has in
      ⊎_elim
      (λ same. let over : order (key x) (key x) ≡ Less = subst (λ (t : X). order (key x) (key t) ≡ Less) (sym same ∙ sym heads) less in absurd (not_round x x over over))
      (λ later. later)
      (first_or_later y ys z (into z (is_later x xs z has)))

  -- rising lists of the same values are one
  pub same_rising : (xs ys : List X) → IsStrictlySortedBy order (map key xs) → IsStrictlySortedBy order (map key ys)
      → ((x : X) → Contains xs x → Contains ys x) → ((x : X) → Contains ys x → Contains xs x) → xs ≡ ys
  same_rising [] [] up rises into back = refl
  same_rising [] (y ∷ ys) up rises into back = absurd (none_there y (back y (is_first y ys)))
  same_rising (x ∷ xs) [] up rises into back = absurd (none_there x (into x (is_first x xs)))
  same_rising (x ∷ xs) (y ∷ ys) up rises into back =
      let heads : x ≡ y = same_heads x y xs ys up rises (into x (is_first x xs)) (back y (is_first y ys)) in
      let tails : xs ≡ ys =
      same_rising xs ys (sorted_tail order (key x) (map key xs) up) (sorted_tail order (key y) (map key ys) rises)
      (same_rest x y xs ys heads up into) (same_rest y x ys xs (sym heads) rises back) in
      λ i. heads i ∷ tails i

  pub just_one : (P : X → Type 0) (xs ys : List X) → AreJust order key P xs → AreJust order key P ys → xs ≡ ys
  just_one P xs ys one other =
      same_rising xs ys one.rising other.rising (λ x has. other.all x (one.only x has)) (λ x has. one.all x (other.only x has))
