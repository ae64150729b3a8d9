-- Elements of a list that another follows, or of which one is written.
use Rattle.std.proofs.Common.{◌≡◌, ℕ, zero, suc, ◌+◌, ◌<◌, ◌⊎◌, List, [], ◌∷◌, ◌++◌, length, Option, Some, None, refl, ap, sym, ◌∙◌, inl, inr, ⊎_elim, arith}
use Rattle.std.specs.Prelude.{slice_set}
use Rattle.std.specs.List.{slice_get}
use Rattle.std.proofs.lemmas.Option.{none-some, same_Some}

-- an element of the first of two lists
pub append_left : {A : Type 0} (xs ys : List A) (i : ℕ) (x : A) → slice_get xs i ≡ Some x → slice_get (xs ++ ys) i ≡ Some x
append_left [] ys i x e = absurd (none-some x e)
append_left (y ∷ xs) ys zero x e = e
append_left (y ∷ xs) ys (suc i) x e = append_left xs ys i x e

-- an element of the second one
pub append_right : {A : Type 0} (xs ys : List A) (i : ℕ) → slice_get (xs ++ ys) (length xs + i) ≡ slice_get ys i
append_right [] ys i = let e : 0 + i ≡ i = omega arith in ap (slice_get ys) e
append_right (x ∷ xs) ys i = let e : suc (length xs) + i ≡ suc (length xs + i) = omega arith in ap (slice_get (x ∷ (xs ++ ys))) e ∙ append_right xs ys i

-- an element of two lists is one of the first or of the second
pub append_cases : {A : Type 0} (xs ys : List A) (i : ℕ) (x : A) → slice_get (xs ++ ys) i ≡ Some x
    → (slice_get xs i ≡ Some x) ⊎ ((k : ℕ) × (i ≡ length xs + k) × (slice_get ys k ≡ Some x))
append_cases [] ys i x e = inr (i, omega arith, e)
append_cases (y ∷ xs) ys zero x e = inl e
append_cases (y ∷ xs) ys (suc i) x e = ⊎_elim (λ h. inl h) (λ h. inr (h.0, omega (arith, h.1), h.2)) (append_cases xs ys i x e)

-- the element behind a list
pub push_at : {A : Type 0} (xs : List A) (x : A) → slice_get (xs ++ x ∷ []) (length xs) ≡ Some x
push_at [] x = refl
push_at (y ∷ xs) x = push_at xs x

-- an element of a list with one more at its end
pub push_cases : {A : Type 0} (xs : List A) (y : A) (i : ℕ) (x : A) → slice_get (xs ++ y ∷ []) i ≡ Some x → (slice_get xs i ≡ Some x) ⊎ ((i ≡ length xs) × (y ≡ x))
push_cases [] y zero x e = inr (refl, same_Some y x e)
push_cases [] y (suc i) x e = absurd (none-some x e)
push_cases (z ∷ xs) y zero x e = inl e
push_cases (z ∷ xs) y (suc i) x e = ⊎_elim (λ h. inl h) (λ h. inr (ap suc h.0, h.1)) (push_cases xs y i x e)

-- an element of a list of which one is written
pub set_cases : {A : Type 0} (xs : List A) (j : ℕ) (y : A) (i : ℕ) (x : A) → slice_get (slice_set xs j y) i ≡ Some x → (slice_get xs i ≡ Some x) ⊎ ((i ≡ j) × (y ≡ x))
set_cases [] j y i x e = absurd (none-some x e)
set_cases (z ∷ xs) zero y zero x e = inr (refl, same_Some y x e)
set_cases (z ∷ xs) zero y (suc i) x e = inl e
set_cases (z ∷ xs) (suc j) y zero x e = inl e
set_cases (z ∷ xs) (suc j) y (suc i) x e = ⊎_elim (λ h. inl h) (λ h. inr (ap suc h.0, h.1)) (set_cases xs j y i x e)

-- an element is the same after another one is written, or is the one that is written
pub set_kept : {A : Type 0} (xs : List A) (j : ℕ) (y : A) (i : ℕ) (x : A) → slice_get xs i ≡ Some x
    → (slice_get (slice_set xs j y) i ≡ Some x) ⊎ ((i ≡ j) × (slice_get (slice_set xs j y) i ≡ Some y))
set_kept [] j y i x e = absurd (none-some x e)
set_kept (z ∷ xs) zero y zero x e = inr (refl, refl)
set_kept (z ∷ xs) zero y (suc i) x e = inl e
set_kept (z ∷ xs) (suc j) y zero x e = inl e
set_kept (z ∷ xs) (suc j) y (suc i) x e = ⊎_elim (λ h. inl h) (λ h. inr (ap suc h.0, h.1)) (set_kept xs j y i x e)
