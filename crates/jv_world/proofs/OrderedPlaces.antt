-- The order of places, and what a search by halves of places in order finds.
use Rattle.std.proofs.Common.{◌≡◌, ℕ, zero, suc, ◌+◌, ◌<◌, ◌≤◌, inl, inr, Bool, true, false, List, [], ◌∷◌, ◌++◌, length, get_or, Option, Some, None, Less, Equal, Greater, is_lt, option_map, slice_get, rules, refl, sym, ap, ◌∙◌, subst, arith}
use Rattle.std.specs.declared.cmp.Ordering.{Ordering}
use Rattle.std.specs.List.{range_with_len, Contains}
use Rattle.std.specs.List.Sorted.{IsPermutation, IsSortedBy, IsPartitionedBy, IsPartitionPoint}
use Rattle.std.specs.Option.{option_cmp}
use Rattle.std.specs.Ordering.{nat_cmp, ordering_then, ordering_reverse, is_eq}
use Rattle.std.specs.Cmp.{IsTotalOrder, IsStrictWeakOrder}
use Rattle.std.specs.Cmp.Lexicographic.{slice_cmp, options_total, nat_list_cmp_total}
use Rattle.std.proofs.lemmas.Cmp.{nat_cmp_total, then_total, on_total, tied_itself}
use Rattle.std.proofs.lemmas.Bool.{cases_lt, false≢true}
use Rattle.std.proofs.lemmas.Option.{slice_get_within}
use Rattle.std.proofs.lemmas.List.FromFn.{length-range_with_len, get_or-range_with_len}
use Rattle.std.proofs.lemmas.List.Sorted.{ranks_by, sorted_far, Contains-permutation}
use Rattle.jv_lists.proofs.Places.{same_at}
use Rattle.jv_lists.proofs.Tests.{is_eq-Equal}
use Rattle.jv_equality.proofs.Exact.{text_ties}
use Rattle.jv_world.specs.Steps.Ordered.{AreOrdered, key_at, named_cmp, place_cmp}
use Rattle.jv_world.proofs.Choices.{by_bool}

-- ---- the numbers from one on

range_suc : (a n : ℕ) → range_with_len a (suc n) ≡ range_with_len a n ++ (a + n) ∷ []
range_suc a zero = ap (λ (k : ℕ). k ∷ []) (omega arith)
range_suc a (suc n) =
    let e : a + 1 + n ≡ a + suc n = omega arith in
    ap (λ (l : List ℕ). a ∷ l) (range_suc (a + 1) n) ∙ ap (λ (k : ℕ). a ∷ (range_with_len (a + 1) n ++ k ∷ [])) e

pub range_more : (n : ℕ) → range_with_len 0 (n + 1) ≡ range_with_len 0 n ++ n ∷ []
range_more n =
    let e : n + 1 ≡ suc n = omega arith in
    let z : 0 + n ≡ n = omega arith in
    ap (range_with_len 0) e ∙ range_suc 0 n ∙ ap (λ (k : ℕ). range_with_len 0 n ++ k ∷ []) z

has_place : (n q : ℕ) → q < n → Contains (range_with_len 0 n) q
has_place n q below = (q, rw (length-range_with_len 0 n) below, get_or-range_with_len 0 n q q below ∙ plus_none q)
  where
    plus_none : (k : ℕ) → 0 + k ≡ k
    plus_none k = omega arith

-- ---- orders

then_not_below : (a b : Ordering) → is_lt (ordering_then a b) ≡ false → is_lt a ≡ false
then_not_below Less b e = e
then_not_below Equal b e = refl
then_not_below Greater b e = refl

then_ties : (a b : Ordering) → ordering_then a b ≡ Equal → (a ≡ Equal) × (b ≡ Equal)
then_ties Less b e = absurd cc
then_ties Equal b e = (refl, e)
then_ties Greater b e = absurd cc

nat_below : (a b : ℕ) → a < b → nat_cmp a b ≡ Less
nat_below a b low = search rules

-- neither the less nor the same
is_greater : (o : Ordering) → is_lt o ≡ false → is_eq o ≡ false → o ≡ Greater
is_greater Less below same = absurd cc
is_greater Equal below same = absurd cc
is_greater Greater below same = refl

-- of names and what comes beside them
pub named_total : {D : Type 0} (R : D → D → Ordering) → IsTotalOrder R → IsTotalOrder (named_cmp R)
named_total {D} R o = then_total (on_total (λ (x : List ℕ × D). x.0) nat_list_cmp_total) (on_total (λ (x : List ℕ × D). x.1) o)

pub named_ties : {D : Type 0} (R : D → D → Ordering) → ((x y : D) → R x y ≡ Equal → x ≡ y) → (x y : List ℕ × D) → named_cmp R x y ≡ Equal → x ≡ y
named_ties R ties x y e =
    let both = then_ties (slice_cmp nat_cmp x.0 y.0) (R x.1 y.1) e in
    λ i. ((text_ties x.0 y.0).0 both.0 i, ties x.1 y.1 both.1 i)

module _ {X K : Type 0} {R : K → K → Ordering} (o : IsTotalOrder R) (key : X → K) (xs : List X) where
  keys_total : IsTotalOrder (λ (a b : ℕ). option_cmp R (key_at key xs a) (key_at key xs b))
  keys_total = on_total (key_at key xs) (options_total o)

  pub places_rank : IsStrictWeakOrder (λ (a b : ℕ). is_lt (place_cmp R key xs a b))
  places_rank = ranks_by (then_total keys_total nat_cmp_total) (λ (a : ℕ). a)

  -- the key stands before this one
  abbrev before : K → ℕ → Bool
  before k place = is_lt (option_cmp R (key_at key xs place) (Some k))

  module _ (places : List ℕ) (are : AreOrdered R key xs places) where
    -- the key of a later place is not below that of an earlier one
    far : (i j d : ℕ) → i ≤ j → j < length places → is_lt (place_cmp R key xs (get_or places j d) (get_or places i d)) ≡ false
    far i j d le lt = sorted_far (λ (a b : ℕ). is_lt (place_cmp R key xs a b)) places_rank places are.rising i j d le lt

    far_key : (i j d : ℕ) → i ≤ j → j < length places → is_lt (option_cmp R (key_at key xs (get_or places j d)) (key_at key xs (get_or places i d))) ≡ false
    far_key i j d le lt = then_not_below _ _ (far i j d le lt)

    -- so the places whose keys stand before this one come first
    pub parted : (k : K) → IsPartitionedBy (before k) places
    parted k i j d le lt below =
        let weak : IsStrictWeakOrder (λ (a b : Option K). is_lt (option_cmp R a b)) = ranks_by (options_total o) (λ (a : Option K). a) in
        let pj = key_at key xs (get_or places j d) in
        let pi = key_at key xs (get_or places i d) in
        by_bool (is_lt (option_cmp R pi (Some k)))
        (λ holds. holds)
        (λ fails. absurd (false≢true (sym (weak.chain pj pi (Some k) (far_key i j d le lt) fails) ∙ below)))

    -- where a place stands among them
    at_index : (q : ℕ) → q < length xs → Contains places q
    at_index q below = Contains-permutation (range_with_len 0 (length xs)) places q are.all (has_place (length xs) q below)

    module _ (k : K) (at : ℕ) (point : IsPartitionPoint (λ (y : ℕ). before k y ≡ true) (λ (y : ℕ). before k y ≡ false) places at) where
      -- a place with this key stands there or later
      later : (q : ℕ) → key_at key xs q ≡ Some k → (j : ℕ) → get_or places j q ≡ q → at ≤ j
      later q is j e =
          elim (cases_lt j at) [
            | inl low ↦
                let below : before k (get_or places j q) ≡ true = point.0 j q (omega arith) low in
                let own : before k q ≡ false = ap (λ (a : Option K). is_lt (option_cmp R a (Some k))) is ∙ ap is_lt (tied_itself o k) in
                absurd (false≢true (sym own ∙ ap (before k) (sym e) ∙ below))
            | inr high ↦ high
          ]

      -- past the end there is no such place
      pub none_past : length places ≤ at → (q : ℕ) (y : X) → slice_get xs q ≡ Some y → key y ≡ k → ⊥
      none_past past q y got is =
          let there = at_index q (slice_get_within xs q y got) in
          let le = later q (ap (option_map key) got ∙ ap Some is) there.0 there.2 in
          absurd (omega (arith, there.1, le, past))

      module _ (p : ℕ) (within : at < length places) (here : p ≡ get_or places at p) where
        -- the key there is not below this one, nor below that of a later place
        not_before : before k p ≡ false
        not_before = ap (before k) here ∙ point.1 at p (omega arith) within

        far_here : (q j : ℕ) → at ≤ j → j < length places → get_or places j q ≡ q → is_lt (place_cmp R key xs q p) ≡ false
        far_here q j le lt e =
            let at_q : p ≡ get_or places at q = here ∙ same_at places at p q within in
            ap (λ (a : ℕ). is_lt (place_cmp R key xs q a)) at_q ∙ ap (λ (a : ℕ). is_lt (place_cmp R key xs a (get_or places at q))) (sym e) ∙ far at j q le lt

        -- where the key there is another, no place has this one
        pub none_there : is_eq (option_cmp R (key_at key xs p) (Some k)) ≡ false → (q : ℕ) (y : X) → slice_get xs q ≡ Some y → key y ≡ k → ⊥
        none_there other q y got is =
            let is_k : key_at key xs q ≡ Some k = ap (option_map key) got ∙ ap Some is in
            let there = at_index q (slice_get_within xs q y got) in
            let le = later q is_k there.0 there.2 in
            let above : option_cmp R (key_at key xs p) (Some k) ≡ Greater = is_greater _ not_before other in
            let below : option_cmp R (Some k) (key_at key xs p) ≡ Less = (options_total o).antisymm (Some k) (key_at key xs p) ∙ ap ordering_reverse above in
            let no : is_lt (option_cmp R (key_at key xs q) (key_at key xs p)) ≡ false = then_not_below _ _ (far_here q there.0 le there.1 there.2) in
            absurd (false≢true (sym no ∙ ap (λ (a : Option K). is_lt (option_cmp R a (key_at key xs p))) is_k ∙ ap is_lt below))

        module _ (ties : (x y : K) → R x y ≡ Equal → x ≡ y) (same : is_eq (option_cmp R (key_at key xs p) (Some k)) ≡ true) where
          tied_key : (a : Option X) → option_cmp R (option_map key a) (Some k) ≡ Equal → (x : X) × (a ≡ Some x) × (key x ≡ k)
          tied_key None e = absurd cc
          tied_key (Some x) e = (x, refl, ties (key x) k e)

          -- where it is this one, the place is the first that has it
          pub found_there : (x : X) × (slice_get xs p ≡ Some x) × (key x ≡ k)
          found_there = tied_key (slice_get xs p) (is_eq-Equal _ same)

          pub first_there : (q : ℕ) (y : X) → q < p → slice_get xs q ≡ Some y → key y ≡ k → ⊥
          first_there q y low got is =
              let is_q : key_at key xs q ≡ Some k = ap (option_map key) got ∙ ap Some is in
              let is_p : key_at key xs p ≡ Some k = ap (option_map key) found_there.1 ∙ ap Some found_there.2 in
              let there = at_index q (slice_get_within xs q y got) in
              let le = later q is_q there.0 there.2 in
              let keys : option_cmp R (key_at key xs q) (key_at key xs p) ≡ Equal =
              ap (λ (a : Option K). option_cmp R a (key_at key xs p)) is_q ∙ ap (λ (a : Option K). option_cmp R (Some k) a) is_p ∙ tied_itself o k in
              let below : place_cmp R key xs q p ≡ Less = ap (λ (a : Ordering). ordering_then a (nat_cmp q p)) keys ∙ nat_below q p low in
              absurd (false≢true (sym (far_here q there.0 le there.1 there.2) ∙ ap is_lt below))

-- what a sort of all places makes
pub AreOrdered-sorted : {X K : Type 0} (R : K → K → Ordering) (key : X → K) (xs : List X) (old new : List ℕ) → old ≡ range_with_len 0 (length xs) → IsPermutation old new
    → IsSortedBy (λ (a b : ℕ). is_lt (place_cmp R key xs a b)) new → AreOrdered R key xs new
AreOrdered-sorted R key xs old new is permutation sorted = record {
  all = subst (λ (l : List ℕ). IsPermutation l new) is permutation;
  rising = sorted;
}
