-- Lists that grow by an element.
use Rattle.std.proofs.Common.{◌≡◌, ◌+◌, ◌<◌, ℕ, zero, suc, List, [], ◌∷◌, ◌++◌, length, None, Some, refl, arith}
use Rattle.std.specs.List.{slice_get}

-- ---- two lists, element by element

-- ---- an element more at the end

pub get_last : {X : Type 0} (xs : List X) (x : X) → slice_get (xs ++ x ∷ []) (length xs) ≡ Some x
get_last [] x = refl
get_last (y ∷ ys) x = get_last ys x

pub get_front : {X : Type 0} (xs : List X) (x : X) (i : ℕ) → i < length xs → slice_get (xs ++ x ∷ []) i ≡ slice_get xs i
get_front [] x i lt = absurd (omega arith)
get_front (y ∷ ys) x zero lt = refl
get_front (y ∷ ys) x (suc i) lt = get_front ys x i (omega arith)

pub got : {X : Type 0} (xs : List X) (i : ℕ) → i < length xs → (x : X) × (slice_get xs i ≡ Some x)
got [] i lt = absurd (omega arith)
got (y ∷ ys) zero lt = (y, refl)
got (y ∷ ys) (suc i) lt = got ys i (omega arith)

-- nothing is no element
pub no_some : {X : Type 0} (a : X) → None ≡ Some a → ⊥
no_some a e = cc
