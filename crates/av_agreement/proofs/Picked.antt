-- Elements that are picked from a list by their places: where each of them stands in the list.
use Rattle.std.proofs.Common.{◌≡◌, ℕ, zero, suc, ◌+◌, ◌<◌, List, [], ◌∷◌, Some, length, slice_get, refl, sym, ap, subst, inl, inr, arith}
use Rattle.av_collected.specs.Answers.{Picks}

-- the elements at the places `at k`, of which P holds, are those that were picked
pub record ArePicked {X : Type 0} (P : ℕ → Type 0) (from : ℕ) (xs picked : List X) (at : ℕ → ℕ) : Type 0 where
  pub each : (k : ℕ) (x : X) → slice_get picked k ≡ Some x → (slice_get xs (at k) ≡ Some x) × P (from + at k)
  pub rising : (j k : ℕ) → j < k → k < length picked → at j < at k
  pub kept : (j : ℕ) (x : X) → slice_get xs j ≡ Some x → P (from + j) → (k : ℕ) × (j ≡ at k) × (slice_get picked k ≡ Some x)

abbrev pushed : (ℕ → ℕ) → ℕ → ℕ
pushed at zero = zero
pushed at (suc k) = suc (at k)

moved : (P : ℕ → Type 0) (from j : ℕ) → P (suc from + j) → P (from + suc j)
moved P from j p = subst P (omega arith) p

back : (P : ℕ → Type 0) (from j : ℕ) → P (from + suc j) → P (suc from + j)
back P from j p = subst P (omega arith) p

picked_none : {X : Type 0} (P : ℕ → Type 0) (from : ℕ) → ArePicked {X = X} P from [] [] (λ k. k)
picked_none {X} P from = record { each = each; rising = λ j k lt here. absurd (omega (arith, here)); kept = kept }
  where
    each : (k : ℕ) (x : X) → slice_get {X = X} [] k ≡ Some x → (slice_get {X = X} [] k ≡ Some x) × P (from + k)
    each k x e = absurd cc

    kept : (j : ℕ) (x : X) → slice_get {X = X} [] j ≡ Some x → P (from + j) → (k : ℕ) × (j ≡ k) × (slice_get {X = X} [] k ≡ Some x)
    kept j x e p = absurd cc

picked_first : {X : Type 0} (P : ℕ → Type 0) (from : ℕ) (y : X) (xs rest : List X) (at : ℕ → ℕ) → P from → ArePicked P (suc from) xs rest at → ArePicked P from (y ∷ xs) (y ∷ rest) (pushed at)
picked_first {X} P from y xs rest at holds more = record { each = each; rising = rising; kept = kept }
  where
    each : (k : ℕ) (x : X) → slice_get (y ∷ rest) k ≡ Some x → (slice_get (y ∷ xs) (pushed at k) ≡ Some x) × P (from + pushed at k)
    each zero x e = (e, subst P (omega arith) holds)
    each (suc k) x e = let r = more.each k x e in (r.0, moved P from (at k) r.1)

    rising : (j k : ℕ) → j < k → k < length (y ∷ rest) → pushed at j < pushed at k
    rising j zero lt here = absurd (omega (arith, lt))
    rising zero (suc k) lt here = omega arith
    rising (suc j) (suc k) lt here = let r = more.rising j k (omega (arith, lt)) (omega (arith, here)) in omega (arith, r)

    kept : (j : ℕ) (x : X) → slice_get (y ∷ xs) j ≡ Some x → P (from + j) → (k : ℕ) × (j ≡ pushed at k) × (slice_get (y ∷ rest) k ≡ Some x)
    kept zero x e p = (zero, refl, e)
    kept (suc j) x e p = let r = more.kept j x e (back P from j p) in (suc r.0, ap (λ (n : ℕ). suc n) r.1, r.2)

picked_other : {X : Type 0} (P : ℕ → Type 0) (from : ℕ) (y : X) (xs rest : List X) (at : ℕ → ℕ) → (P from → ⊥) → ArePicked P (suc from) xs rest at → ArePicked P from (y ∷ xs) rest (λ k. suc (at k))
picked_other {X} P from y xs rest at not more = record { each = each; rising = rising; kept = kept }
  where
    each : (k : ℕ) (x : X) → slice_get rest k ≡ Some x → (slice_get (y ∷ xs) (suc (at k)) ≡ Some x) × P (from + suc (at k))
    each k x e = let r = more.each k x e in (r.0, moved P from (at k) r.1)

    rising : (j k : ℕ) → j < k → k < length rest → suc (at j) < suc (at k)
    rising j k lt here = let r = more.rising j k lt here in omega (arith, r)

    kept : (j : ℕ) (x : X) → slice_get (y ∷ xs) j ≡ Some x → P (from + j) → (k : ℕ) × (j ≡ suc (at k)) × (slice_get rest k ≡ Some x)
    kept zero x e p = absurd (not (subst P (omega arith) p))
    kept (suc j) x e p = let r = more.kept j x e (back P from j p) in (r.0, ap (λ (n : ℕ). suc n) r.1, r.2)

pub are_picked : {X : Type 0} (P : ℕ → Type 0) (from : ℕ) (xs picked : List X) → Picks P from xs picked → (at : ℕ → ℕ) × ArePicked P from xs picked at
are_picked {X} P from [] picked p = ((λ k. k), subst (λ (ys : List X). ArePicked P from [] ys (λ k. k)) (sym p) (picked_none P from))
are_picked {X} P from (x ∷ xs) picked (inl (holds, rest, e, p)) =
    let r = are_picked P (suc from) xs rest p in
    (pushed r.0, subst (λ (ys : List X). ArePicked P from (x ∷ xs) ys (pushed r.0)) (sym e) (picked_first P from x xs rest r.0 holds r.1))
are_picked P from (x ∷ xs) picked (inr (not, p)) =
    let r = are_picked P (suc from) xs picked p in
    ((λ k. suc (r.0 k)), picked_other P from x xs picked r.0 not r.1)
