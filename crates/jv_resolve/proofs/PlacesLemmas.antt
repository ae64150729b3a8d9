-- Steps of a search for the first place.
use Rattle.std.proofs.Common.{◌≡◌, ℕ, ◌+◌, ◌<◌, ◌≤◌, List, [], ◌∷◌, ◌++◌, Some, length, get_or, subst, sym, ◌∙◌, ap, arith, inl, inr, refl}
use Rattle.std.specs.List.{slice_get, Contains}
use Rattle.std.proofs.lemmas.Option.{slice_get_read, slice_get_within, slice_get-get_or, get_or_from_slice_get}
use Rattle.std.proofs.lemmas.Bool.{cases_lt}
use Rattle.jv_world.specs.MemberPlaces.{NoneBelow, NoneIn}

-- the element of which the loop speaks
pub read_at : {X : Type 0} (xs : List X) (i : ℕ) (x : X) → i < length xs → x ≡ get_or xs i x → slice_get xs i ≡ Some x
read_at xs i x lt is = slice_get_read xs (length xs) i x refl lt is

pub none_more : {X : Type 0} (P : X → Type 0) (xs : List X) (i : ℕ) (x : X) → slice_get xs i ≡ Some x → (P x → ⊥) → NoneBelow P xs i → NoneBelow P xs (i + 1)
none_more {X} P xs i x at fails before k y below got holds =
    elim (cases_lt k i) [
      | inl l ↦ before k y l got holds
      | inr g ↦
          let here : k ≡ i = omega arith in
          let same : Some y ≡ Some x = sym got ∙ ap (slice_get xs) here ∙ at in
          let y_is : y ≡ x = cc in
          fails (subst P y_is holds)
    ]

pub none_all : {X : Type 0} (P : X → Type 0) (xs : List X) (i : ℕ) → length xs ≤ i → NoneBelow P xs i → NoneIn P xs
none_all P xs i past before k y got holds =
    let within : k < length xs = slice_get_within xs k y got in
    before k y (omega arith) got holds

-- an element of a list of which no place passed
pub none_among : {X : Type 0} (P : X → Type 0) (xs : List X) (i : ℕ) (x : X) → length xs ≤ i → NoneBelow P xs i → Contains xs x → P x → ⊥
none_among P xs i x past before among holds =
    none_all P xs i past before among.0 x (read_at xs among.0 x among.1 (sym among.2)) holds

pub none_next : {X : Type 0} (P : X → Type 0) (xs : List X) (i : ℕ) (d : X) → i < length xs → (P (get_or xs i d) → ⊥) → NoneBelow P xs i → NoneBelow P xs (i + 1)
none_next P xs i d lt fails before = none_more P xs i (get_or xs i d) (slice_get-get_or xs i d lt) fails before

pub each_next : {X : Type 0} (P : X → Type 0) (xs : List X) (i : ℕ) (d : X) → i < length xs → P (get_or xs i d)
    → ((k : ℕ) (x : X) → k < i → slice_get xs k ≡ Some x → P x) → (k : ℕ) (x : X) → k < i + 1 → slice_get xs k ≡ Some x → P x
each_next {X} P xs i d lt holds before k y below got =
    elim (cases_lt k i) [
      | inl l ↦ before k y l got
      | inr g ↦
          let here : k ≡ i = omega arith in
          let same : Some (get_or xs i d) ≡ Some y = sym (slice_get-get_or xs i d lt) ∙ sym (ap (slice_get xs) here) ∙ got in
          let y_is : get_or xs i d ≡ y = cc in
          subst P y_is holds
    ]

pub each_among : {X : Type 0} (P : X → Type 0) (xs : List X) (i : ℕ) (x : X) → length xs ≤ i → ((k : ℕ) (y : X) → k < i → slice_get xs k ≡ Some y → P y) → Contains xs x → P x
each_among P xs i x past before among = let l = among.1 in before among.0 x (omega arith) (read_at xs among.0 x among.1 (sym among.2))

pub among_from_get : {X : Type 0} (xs : List X) (k : ℕ) (x : X) → slice_get xs k ≡ Some x → Contains xs x
among_from_get xs k x got = (k, slice_get_within xs k x got, get_or_from_slice_get xs k x x got)

pub within_all : {X : Type 0} (xs : List X) (k i : ℕ) (x : X) → length xs ≤ i → slice_get xs k ≡ Some x → k < i
within_all xs k i x past got = let l = slice_get_within xs k x got in omega arith

pub each_more : {X : Type 0} (P : X → Type 0) (xs : List X) (i : ℕ) (x : X) → slice_get xs i ≡ Some x → P x
    → ((k : ℕ) (y : X) → k < i → slice_get xs k ≡ Some y → P y) → (k : ℕ) (y : X) → k < i + 1 → slice_get xs k ≡ Some y → P y
each_more {X} P xs i x at holds before k y below got =
    elim (cases_lt k i) [
      | inl l ↦ before k y l got
      | inr g ↦
          let here : k ≡ i = omega arith in
          let same : Some x ≡ Some y = sym at ∙ sym (ap (slice_get xs) here) ∙ got in
          let y_is : x ≡ y = cc in
          subst P y_is holds
    ]
