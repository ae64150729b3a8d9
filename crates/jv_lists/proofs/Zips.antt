-- Two lists in a relation, element by element.
use Rattle.std.proofs.Common.{◌≡◌, ℕ, zero, suc, ◌+◌, ◌<◌, List, [], ◌∷◌, ◌++◌, length, get_or, take, Some, slice_get, refl, subst, arith}
use Rattle.std.specs.List.{AllZip}
use Rattle.std.proofs.lemmas.List.{take_more}
use Rattle.std.proofs.lemmas.Option.{same_Some}
use Rattle.std.proofs.lemmas.Slice.Zip.{all_zipped_more}

-- a loop's step
pub zip_more : {A B : Type 0} (R : A → B → Type 0) (xs : List A) (ys : List B) (i : ℕ) (d : A) (y : B) → i < length xs → AllZip R (take i xs) ys → R (get_or xs i d) y → AllZip R (take (i + 1) xs) (ys ++ y ∷ [])
zip_more R xs ys i d y lt h r = rw (take_more xs i d lt) (all_zipped_more R (take i xs) ys (get_or xs i d) y h r)

-- the same, where the element was read
pub zip_more_of : {A B : Type 0} (R : A → B → Type 0) (xs : List A) (ys : List B) (i : ℕ) (x : A) (y : B) → i < length xs → x ≡ get_or xs i x → AllZip R (take i xs) ys → R x y → AllZip R (take (i + 1) xs) (ys ++ y ∷ [])
zip_more_of {A} R xs ys i x y lt is h r = zip_more R xs ys i x y lt h (subst (λ (a : A). R a y) is r)

-- to what an element is in relation
pub zip_at : {A B : Type 0} (R : A → B → Type 0) (xs : List A) (ys : List B) (i : ℕ) (d : A) → AllZip R xs ys → i < length xs → (y : B) × R (get_or xs i d) y
zip_at R [] ys i d h lt = absurd (omega arith)
zip_at R (a ∷ xs) [] i d h lt = absurd h
zip_at R (a ∷ xs) (b ∷ ys) zero d h lt = (b, h.0)
zip_at R (a ∷ xs) (b ∷ ys) (suc i) d h lt = zip_at R xs ys i d h.1 (omega arith)

-- the element at the same place of the other list
pub zip_into : {X Y : Type 0} (R : X → Y → Type 0) (xs : List X) (ys : List Y) → AllZip R xs ys → (k : ℕ) (x : X) → slice_get xs k ≡ Some x → (y : Y) × (slice_get ys k ≡ Some y) × R x y
zip_into R [] [] all k x e = absurd cc
zip_into R [] (y ∷ ys) all k x e = absurd all
zip_into R (z ∷ xs) [] all k x e = absurd all
zip_into R (z ∷ xs) (y ∷ ys) all zero x e = (y, refl, subst (λ u. R u y) (same_Some z x e) all.0)
zip_into R (z ∷ xs) (y ∷ ys) all (suc k) x e = zip_into R xs ys all.1 k x e

pub zip_back : {X Y : Type 0} (R : X → Y → Type 0) (xs : List X) (ys : List Y) → AllZip R xs ys → (k : ℕ) (y : Y) → slice_get ys k ≡ Some y → (x : X) × (slice_get xs k ≡ Some x) × R x y
zip_back R [] [] all k y e = absurd cc
zip_back R [] (z ∷ ys) all k y e = absurd all
zip_back R (x ∷ xs) [] all k y e = absurd all
zip_back R (x ∷ xs) (z ∷ ys) all zero y e = (x, refl, subst (λ u. R x u) (same_Some z y e) all.0)
zip_back R (x ∷ xs) (z ∷ ys) all (suc k) y e = zip_back R xs ys all.1 k y e

-- where an element is in relation to one at most, a list is in relation to one at most
pub one_zip : {X Y : Type 0} (R : X → Y → Type 0) → ((x : X) (y z : Y) → R x y → R x z → y ≡ z) → (xs : List X) (ys zs : List Y) → AllZip R xs ys → AllZip R xs zs → ys ≡ zs
one_zip R one [] [] [] p q = refl
one_zip R one [] [] (z ∷ zs) p q = absurd q
one_zip R one [] (y ∷ ys) zs p q = absurd p
one_zip R one (x ∷ xs) [] zs p q = absurd p
one_zip R one (x ∷ xs) (y ∷ ys) [] p q = absurd q
one_zip R one (x ∷ xs) (y ∷ ys) (z ∷ zs) p q =
    let first = one x y z p.0 q.0 in
    let rest = one_zip R one xs ys zs p.1 q.1 in
    λ i. first i ∷ rest i
