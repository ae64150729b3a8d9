-- What stands at a place of a list.
use Rattle.std.proofs.Common.{◌≡◌, ℕ, zero, suc, List, [], ◌∷◌, ◌++◌, Some, subst, arith}
use Rattle.std.specs.List.{AllByRecursion, AllZip}
use Rattle.std.specs.Prelude.{Contains, slice_get}
use Rattle.std.proofs.lemmas.List.Elements.{All-contains, All-from_recursion}
use Rattle.std.proofs.lemmas.Option.{get_or_from_slice_get, none-some, slice_get_within}
use Rattle.jv_read.proofs.Fronts.{some_is}

-- it is one of its elements
pub contained : {X : Type 0} (xs : List X) (i : ℕ) (x : X) → slice_get xs i ≡ Some x → Contains xs x
contained xs i x at = (i, slice_get_within xs i x at, get_or_from_slice_get xs i x x at)

-- what holds of each element
pub of_each : {X : Type 0} (P : X → Type 0) (xs : List X) (x : X) → AllByRecursion P xs → Contains xs x → P x
of_each P xs x all among = All-contains P xs x (All-from_recursion P xs all) among

-- what stands at the same place of a list beside it
pub partner : {A B : Type 0} (R : A → B → Type 0) (xs : List A) (ys : List B) (i : ℕ) (x : A) → AllZip R xs ys → slice_get xs i ≡ Some x → (y : B) × (slice_get ys i ≡ Some y) × R x y
partner R [] ys i x z e = absurd (none-some x e)
partner R (w ∷ xs) [] i x z e = absurd z
partner {A} {B} R (w ∷ xs) (v ∷ ys) zero x z e = (v, λ i. Some v, subst (λ (u : A). R u v) (some_is w x e) z.0)
partner R (w ∷ xs) (v ∷ ys) (suc i) x z e = partner R xs ys i x z.1 e

-- it stands at the same place of a longer list
pub in_longer : {X : Type 0} (xs ys : List X) (i : ℕ) (x : X) → slice_get xs i ≡ Some x → slice_get (xs ++ ys) i ≡ Some x
in_longer [] ys i x e = absurd (none-some x e)
in_longer (w ∷ xs) ys zero x e = e
in_longer (w ∷ xs) ys (suc i) x e = in_longer xs ys i x e

-- each of a list has a partner in a list before it
pub loaded_from : {A B : Type 0} (R : A → B → Type 0) (xs : List A) (ys : List B) (y : B) → AllZip R xs ys → Contains ys y → (x : A) × R x y
loaded_from R xs [] y z (k, within, is) = absurd (omega (arith, within))
loaded_from R [] (v ∷ ys) y z among = absurd z
loaded_from {A} {B} R (x ∷ xs) (v ∷ ys) y z (zero, within, is) = (x, subst (R x) is z.0)
loaded_from R (x ∷ xs) (v ∷ ys) y z (suc k, within, is) = loaded_from R xs ys y z.1 (k, omega (arith, within), is)
