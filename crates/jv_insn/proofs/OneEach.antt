-- Lists with the same starts have something at the same offsets.
use Rattle.std.proofs.Common.{◌≡◌, ℕ, Bool, true, false, eqb, cond, List, [], ◌∷◌, map, Option, Some, None, IsSome, refl}
use Rattle.jv_types.specs.Bodies.{at_offset, IsStart}

pub same_starts : {A B : Type 0} (pc : ℕ) (xs : List (ℕ × A)) (ys : List (ℕ × B)) → map (λ (row : ℕ × A). row.0) xs ≡ map (λ (row : ℕ × B). row.0) ys → IsStart xs pc → IsStart ys pc
same_starts pc [] [] e s = s
same_starts pc [] (y ∷ ys) e s = absurd cc
same_starts pc (x ∷ xs) [] e s = absurd cc
same_starts {A = A} {B = B} pc (x ∷ xs) (y ∷ ys) e s =
    let first : x.0 ≡ y.0 = cc in
    let rest : map (λ (row : ℕ × A). row.0) xs ≡ map (λ (row : ℕ × B). row.0) ys = cc in
    by_first (eqb y.0 pc) refl (rw first at s) (λ s. same_starts pc xs ys rest s)
  where
    by_first : (b : Bool) → eqb y.0 pc ≡ b → IsSome (cond (eqb y.0 pc) (Some x.1) (at_offset pc xs)) → (IsStart xs pc → IsStart ys pc) → IsStart (y ∷ ys) pc
    by_first true e s more = rw e refl
    by_first false e s more = rw e (more (rw e at s))

-- what there is, where there is something
pub value_of : {X : Type 0} (o : Option X) → IsSome o → (x : X) × (o ≡ Some x)
value_of None s = absurd cc
value_of (Some x) s = (x, refl)
