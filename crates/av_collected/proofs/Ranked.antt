-- A list of shapes is a world where supertypes are there and of the right kinds, and links lead to lower ranks,
-- however high the ranks are.
use Rattle.std.proofs.Common.{◌≡◌, ℕ, zero, suc, ◌+◌, ◌<◌, ◌≤◌, ◌⊎◌, inl, inr, ltb, cond, List, length, subst, arith}
use Rattle.std.proofs.lemmas.Bool.Decides.{nat_tests}
use Rattle.jv_types.specs.declared.shapes.Shape.{Shape}
use Rattle.jv_resolve.proofs.Hierarchy.{super_here}
use Rattle.jv_world.specs.Worlds.{AreNumbered, HasRightSupers, HasSuper, IsAbsent, IsWorld}
use Rattle.std.specs.Prelude.{Contains}

-- how many numbers below n have a rank below k
abbrev below : (ℕ → ℕ) → ℕ → ℕ → ℕ
below rank zero k = 0
below rank (suc n) k = below rank n k + cond (ltb (rank n) k) 1 0

step : (a b r k l : ℕ) → a ≤ b → k ≤ l → a + cond (ltb r k) 1 0 ≤ b + cond (ltb r l) 1 0
step a b r k l h g = grind (arith, nat_tests)

step_less : (a b r k l : ℕ) → a < b → k ≤ l → a + cond (ltb r k) 1 0 < b + cond (ltb r l) 1 0
step_less a b r k l h g = grind (arith, nat_tests)

step_here : (a b r k l : ℕ) → a ≤ b → k ≤ r → r < l → a + cond (ltb r k) 1 0 < b + cond (ltb r l) 1 0
step_here a b r k l h low high = grind (arith, nat_tests)

step_bound : (a n r k : ℕ) → a ≤ n → a + cond (ltb r k) 1 0 ≤ suc n
step_bound a n r k h = grind (arith, nat_tests)

step_bound_less : (a n r k : ℕ) → a < n → a + cond (ltb r k) 1 0 < suc n
step_bound_less a n r k h = grind (arith, nat_tests)

step_bound_here : (a n r k : ℕ) → a ≤ n → k ≤ r → a + cond (ltb r k) 1 0 < suc n
step_bound_here a n r k h low = grind (arith, nat_tests)

up_to : (m n : ℕ) → m < suc n → (m ≡ n) ⊎ (m < n)
up_to m n h = grind arith

below-more : (rank : ℕ → ℕ) (n k l : ℕ) → k ≤ l → below rank n k ≤ below rank n l
below-more rank zero k l h = omega arith
below-more rank (suc n) k l h = step (below rank n k) (below rank n l) (rank n) k l (below-more rank n k l h) h

below-less : (rank : ℕ → ℕ) (n d k l : ℕ) → d < n → k ≤ rank d → rank d < l → below rank n k < below rank n l
below-less rank zero d k l here low high = absurd (omega (arith, here))
below-less rank (suc n) d k l here low high = by (up_to d n here) (λ less. below-less rank n d k l less low high)
  where
    by : (d ≡ n) ⊎ (d < n) → (d < n → below rank n k < below rank n l) → below rank (suc n) k < below rank (suc n) l
    by (inl is) more =
        let lower : k ≤ rank n = subst (λ (m : ℕ). k ≤ rank m) is low in
        let higher : rank n < l = subst (λ (m : ℕ). rank m < l) is high in
        step_here (below rank n k) (below rank n l) (rank n) k l (below-more rank n k l (omega (arith, low, high))) lower higher
    by (inr less) more = step_less (below rank n k) (below rank n l) (rank n) k l (more less) (omega (arith, low, high))

below-most : (rank : ℕ → ℕ) (n k : ℕ) → below rank n k ≤ n
below-most rank zero k = omega arith
below-most rank (suc n) k = step_bound (below rank n k) n (rank n) k (below-most rank n k)

below-bound : (rank : ℕ → ℕ) (n c k : ℕ) → c < n → k ≤ rank c → below rank n k < n
below-bound rank zero c k here low = absurd (omega (arith, here))
below-bound rank (suc n) c k here low = by (up_to c n here) (λ less. below-bound rank n c k less low)
  where
    by : (c ≡ n) ⊎ (c < n) → (c < n → below rank n k < n) → below rank (suc n) k < suc n
    by (inl is) more = step_bound_here (below rank n k) n (rank n) k (below-most rank n k) (subst (λ (m : ℕ). k ≤ rank m) is low)
    by (inr less) more = step_bound_less (below rank n k) n (rank n) k (more less)

pub ranked : (v : List Shape) → AreNumbered v → ((name : List ℕ) → IsAbsent v name → ⊥) → ((shape : Shape) → Contains v shape → HasRightSupers v shape)
    → (rank : ℕ → ℕ) → ((c d : ℕ) → HasSuper v c d → rank d < rank c) → IsWorld v
ranked v numbered there right rank falls = record {
  numbered = numbered;
  none_absent = there;
  right_supers = right;
  rank = λ c. below rank (length v) (rank c);
  falls = λ c d link. below-less rank (length v) d (rank d) (rank c) (super_here v c d link) (omega arith) (falls c d link);
  bound = λ c here. below-bound rank (length v) c (rank c) here (omega arith);
}
