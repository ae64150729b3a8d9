-- What is decided: by parts, by a test, and for each item of a list.
use Rattle.std.proofs.Common.{◌≡◌, ◌⊎◌, inl, inr, ⊎_elim, Bool, true, false, ℕ, List, [], ◌∷◌, Option, Some, None, Decides, IsTrue, bytes_eq, refl, sym, ap, subst}
use Rattle.std.specs.List.{AllByRecursion}
use Rattle.std.proofs.lemmas.Slice.Eq.{bytes_eq-Decides}
use Rattle.jv_read.proofs.Fronts.{some_is}

-- it holds, or it doesn't
abbrev pub IsDecided : Type 0 → Type 0
IsDecided P = P ⊎ (P → ⊥)

pub like : {P Q : Type 0} → (P → Q) → (Q → P) → IsDecided P → IsDecided Q
like f g (inl p) = inl (f p)
like f g (inr n) = inr (λ q. n (g q))

pub both : {P Q : Type 0} → IsDecided P → IsDecided Q → IsDecided (P × Q)
both (inl p) (inl q) = inl (p, q)
both (inl p) (inr n) = inr (λ h. n h.1)
both (inr n) d = inr (λ h. n h.0)

pub either : {P Q : Type 0} → IsDecided P → IsDecided Q → IsDecided (P ⊎ Q)
either (inl p) d = inl (inl p)
either (inr n) (inl q) = inl (inr q)
either (inr n) (inr m) = inr (⊎_elim n m)

pub denial : {P : Type 0} → IsDecided P → IsDecided (P → ⊥)
denial (inl p) = inr (λ n. n p)
denial (inr n) = inl n

pub by_test : (b : Bool) → IsDecided (b ≡ true)
by_test true = inl refl
by_test false = inr (λ e. cc)

pub by_decides : {P : Type 0} (b : Bool) → Decides b P → IsDecided P
by_decides b d = like d.0 d.1 (by_test b)

pub each : {X : Type 0} (P : X → Type 0) → ((x : X) → IsDecided (P x)) → (xs : List X) → IsDecided (AllByRecursion P xs)
each P d [] = inl tt
each P d (x ∷ xs) = like (λ h. (h.0, h.1)) (λ h. (h.0, h.1)) (both (d x) (each P d xs))

pub same_text : (x y : List ℕ) → IsDecided (x ≡ y)
same_text x y = by_decides (bytes_eq x y) (bytes_eq-Decides x y)

pub same_found : (x y : Option (List ℕ)) → IsDecided (x ≡ y)
same_found None None = inl refl
same_found None (Some y) = inr (λ e. cc)
same_found (Some x) None = inr (λ e. cc)
same_found (Some x) (Some y) = like (λ e. ap Some e) (λ e. some_is x y e) (same_text x y)

-- something is there, and this holds of it
pub there : {X : Type 0} (found : Option X) (P : X → Type 0) → ((x : X) → IsDecided (P x)) → IsDecided ((x : X) × (found ≡ Some x) × P x)
there None P d = inr (λ h. let e : None ≡ Some h.0 = h.1 in cc)
there (Some x) P d = by (d x)
  where
    by : IsDecided (P x) → IsDecided ((y : _) × (Some x ≡ Some y) × P y)
    by (inl p) = inl (x, refl, p)
    by (inr n) = inr (λ h. n (subst P (sym (some_is x h.0 h.1)) h.2))
