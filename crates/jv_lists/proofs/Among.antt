-- The elements of a list.
use Rattle.std.proofs.Common.{◌≡◌, ℕ, zero, suc, ◌<◌, List, [], ◌∷◌, ◌++◌, length, map, take, drop, Contains, ◌⊎◌, inl, inr, refl, subst, take-append-drop, arith}
use Rattle.std.specs.List.{AllByRecursion}
use Rattle.std.proofs.lemmas.List.Elements.{Contains-append_left}

-- nothing is an element of the empty list
pub none_there : {X : Type 0} (x : X) → Contains [] x → ⊥
none_there x h = let below : h.0 < 0 = h.1 in omega arith

pub is_first : {X : Type 0} (x : X) (xs : List X) → Contains (x ∷ xs) x
is_first x xs = (0, omega arith, refl)

pub is_later : {X : Type 0} (x : X) (xs : List X) (y : X) → Contains xs y → Contains (x ∷ xs) y
is_later x xs y (k, lt, e) = (suc k, omega arith, e)

-- an element of a list is its first or one of the others
pub first_or_later : {X : Type 0} (x : X) (xs : List X) (y : X) → Contains (x ∷ xs) y → (x ≡ y) ⊎ Contains xs y
first_or_later x xs y (zero, lt, e) = inl e
first_or_later x xs y (suc k, lt, e) = inr (k, omega arith, e)

-- what holds of each holds of an element
pub of_each : {X : Type 0} (P : X → Type 0) (xs : List X) (y : X) → AllByRecursion P xs → Contains xs y → P y
of_each P [] y all among = absurd (none_there y among)
of_each P (x ∷ xs) y all among = by (first_or_later x xs y among) (λ later. of_each P xs y all.1 later)
  where
    by : (x ≡ y) ⊎ Contains xs y → (Contains xs y → P y) → P y
    by (inl is) others = subst P is all.0
    by (inr later) others = others later

-- what holds of each holds of each where it gives something else
pub all_from : {X : Type 0} (P Q : X → Type 0) → ((x : X) → P x → Q x) → (xs : List X) → AllByRecursion P xs → AllByRecursion Q xs
all_from P Q f [] p = tt
all_from P Q f (x ∷ xs) p = (f x p.0, all_from P Q f xs p.1)

-- from what an element of a mapped list comes
pub mapped_from : {X Y : Type 0} (f : X → Y) (xs : List X) (y : Y) → Contains (map f xs) y → (x : X) × Contains xs x × (f x ≡ y)
mapped_from f [] y (k, lt, e) = absurd (omega arith)
mapped_from f (x ∷ xs) y (zero, lt, e) = (x, is_first x xs, e)
mapped_from f (x ∷ xs) y (suc k, lt, e) =
    let more = mapped_from f xs y (k, omega arith, e) in
    (more.0, is_later x xs more.0 more.1, more.2)

pub mapped_to : {X Y : Type 0} (f : X → Y) (xs : List X) (x : X) → Contains xs x → Contains (map f xs) (f x)
mapped_to f [] x (k, lt, e) = absurd (omega arith)
mapped_to f (y ∷ xs) x (zero, lt, e) = subst (λ z. Contains (map f (y ∷ xs)) (f z)) e (is_first (f y) (map f xs))
mapped_to f (y ∷ xs) x (suc k, lt, e) = is_later (f y) (map f xs) (f x) (mapped_to f xs x (k, omega arith, e))

-- an element of a front is one of the whole
pub of_front : {X : Type 0} (xs : List X) (i : ℕ) (x : X) → Contains (take i xs) x → Contains xs x
of_front xs i x h = subst (λ ys. Contains ys x) (take-append-drop i xs) (Contains-append_left (take i xs) (drop i xs) x h)
