-- What a list has that is picked or made from another one.
use Rattle.std.proofs.Common.{◌≡◌, ◌⊎◌, inl, inr, Bool, true, false, cond, List, [], ◌∷◌, map, filter, length, Contains, refl, sym, ap, subst, ◌∙◌, arith}
use Rattle.std.specs.List.{AllZip}
use Rattle.av_collected.proofs.Lists.{in_head, in_tail, of_cons, in_none}

-- ---- mapped

mapped_in : {X Y : Type 0} (f : X → Y) (x : X) (xs : List X) (y : Y) → (f x ≡ y) ⊎ Contains (map f xs) y → (Contains (map f xs) y → (z : X) × Contains xs z × (f z ≡ y)) → (z : X) × Contains (x ∷ xs) z × (f z ≡ y)
mapped_in f x xs y (inl is) rest = (x, in_head x xs, is)
mapped_in f x xs y (inr h) rest = let w = rest h in (w.0, in_tail x xs w.0 w.1, w.2)

pub mapped_from : {X Y : Type 0} (f : X → Y) (xs : List X) (y : Y) → Contains (map f xs) y → (x : X) × Contains xs x × (f x ≡ y)
mapped_from f [] y h = absurd (in_none y h)
mapped_from f (x ∷ xs) y h = mapped_in f x xs y (of_cons (f x) (map f xs) y h) (mapped_from f xs y)

mapped_at : {X Y : Type 0} (f : X → Y) (x z : X) (xs : List X) → (x ≡ z) ⊎ Contains xs z → (Contains xs z → Contains (map f xs) (f z)) → Contains (map f (x ∷ xs)) (f z)
mapped_at f x z xs (inl is) rest = subst (λ (w : _). Contains (f x ∷ map f xs) (f w)) is (in_head (f x) (map f xs))
mapped_at f x z xs (inr h) rest = in_tail (f x) (map f xs) (f z) (rest h)

pub mapped_to : {X Y : Type 0} (f : X → Y) (xs : List X) (x : X) → Contains xs x → Contains (map f xs) (f x)
mapped_to f [] x h = absurd (in_none x h)
mapped_to f (y ∷ xs) x h = mapped_at f y x xs (of_cons y xs x h) (mapped_to f xs x)

-- ---- picked

picked_in : {X : Type 0} (p : X → Bool) (x : X) (xs : List X) (y : X) (t : Bool) → p x ≡ t → (Contains (filter p xs) y → Contains xs y × (p y ≡ true)) → Contains (cond t (x ∷ filter p xs) (filter p xs)) y → Contains (x ∷ xs) y × (p y ≡ true)
picked_in {X} p x xs y true e rest h = by (of_cons x (filter p xs) y h)
  where
    by : (x ≡ y) ⊎ Contains (filter p xs) y → Contains (x ∷ xs) y × (p y ≡ true)
    by (inl is) = (subst (λ (z : X). Contains (x ∷ xs) z) is (in_head x xs), subst (λ (z : X). p z ≡ true) is e)
    by (inr more) = let w = rest more in (in_tail x xs y w.0, w.1)
picked_in p x xs y false e rest h = let w = rest h in (in_tail x xs y w.0, w.1)

pub picked_from : {X : Type 0} (p : X → Bool) (xs : List X) (y : X) → Contains (filter p xs) y → Contains xs y × (p y ≡ true)
picked_from p [] y h = absurd (in_none y h)
picked_from p (x ∷ xs) y h = picked_in p x xs y (p x) refl (picked_from p xs y) h

picked_at : {X : Type 0} (p : X → Bool) (x : X) (xs : List X) (y : X) (t : Bool) → p x ≡ t → p y ≡ true → (Contains xs y → Contains (filter p xs) y) → (x ≡ y) ⊎ Contains xs y → Contains (cond t (x ∷ filter p xs) (filter p xs)) y
picked_at {X} p x xs y true e passes rest (inl is) = subst (λ (z : X). Contains (x ∷ filter p xs) z) is (in_head x (filter p xs))
picked_at p x xs y true e passes rest (inr h) = in_tail x (filter p xs) y (rest h)
picked_at {X} p x xs y false e passes rest (inl is) = let both : false ≡ true = sym e ∙ ap p is ∙ passes in absurd cc
picked_at p x xs y false e passes rest (inr h) = rest h

pub picked_to : {X : Type 0} (p : X → Bool) (xs : List X) (y : X) → p y ≡ true → Contains xs y → Contains (filter p xs) y
picked_to p [] y passes h = absurd (in_none y h)
picked_to p (x ∷ xs) y passes h = picked_at p x xs y (p x) refl passes (picked_to p xs y passes) (of_cons x xs y h)

-- ---- element by element

pub zip_length : {X Y : Type 0} (R : X → Y → Type 0) (xs : List X) (ys : List Y) → AllZip R xs ys → length ys ≡ length xs
zip_length R [] [] h = refl
zip_length R [] (y ∷ ys) h = absurd h
zip_length R (x ∷ xs) [] h = absurd h
zip_length R (x ∷ xs) (y ∷ ys) h = let e = zip_length R xs ys h.1 in omega arith

zip_in : {X Y : Type 0} (R : X → Y → Type 0) (x : X) (y z : Y) (xs : List X) (ys : List Y) → R x y → (y ≡ z) ⊎ Contains ys z → (Contains ys z → (w : X) × R w z) → (w : X) × R w z
zip_in {X} {Y} R x y z xs ys r (inl is) rest = (x, subst (λ (v : Y). R x v) is r)
zip_in R x y z xs ys r (inr h) rest = rest h

pub zip_at : {X Y : Type 0} (R : X → Y → Type 0) (xs : List X) (ys : List Y) (y : Y) → AllZip R xs ys → Contains ys y → (x : X) × R x y
zip_at R [] [] y h among = absurd (in_none y among)
zip_at R [] (z ∷ zs) y h among = absurd h
zip_at R (x ∷ xs) [] y h among = absurd h
zip_at R (x ∷ xs) (z ∷ zs) y h among = zip_in R x z y xs zs h.0 (of_cons z zs y among) (zip_at R xs zs y h.1)
