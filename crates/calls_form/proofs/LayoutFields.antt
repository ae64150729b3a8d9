-- What is read from the front is spelled so, and what is spelled so is read: numbers and runs of bytes.
use Rattle.std.proofs.Common.{◌≡◌, ℕ, suc, ◌+◌, ◌^◌, ◌<◌, ◌≤◌, Bool, true, false, cond, ltb, List, [], ◌∷◌, ◌++◌, length, get_or, take, drop, Option, Some, None, refl, sym, ap, subst, ◌∙◌, append_assoc, arith, inl, inr}
use Rattle.std.specs.Int.{w16, w32, from_be_bytes}
use Rattle.std.proofs.lemmas.Bool.{cases_lt, ltb-false, le-ltb}
use Rattle.std.proofs.lemmas.List.{take_at, drop_at, take-append-drop, length-append, length-take, get_or-drop, get_or-take, get_or_past}
use Rattle.std.proofs.lemmas.Nat.{be_bytes_2, be_bytes_4, from_be_bytes-to_be_bytes_2, from_be_bytes-to_be_bytes_4}
use Rattle.calls_form.specs.Layout.{u2, u4}
use Rattle.calls_form.specs.Reading.{◌>>=◌, u1_at, u2_at, u4_at, bytes_at}

-- each number of the list is a byte
abbrev pub IsBytes : List ℕ → Type 0
IsBytes bytes = (i : ℕ) → get_or bytes i 0 < 256

-- what is left of bytes are bytes
pub IsBytes-drop : (n : ℕ) (bytes : List ℕ) → IsBytes bytes → IsBytes (drop n bytes)
IsBytes-drop n bytes h i = rw get_or-drop (h (n + i))

-- a front of bytes are bytes
pub IsBytes-take : (n : ℕ) (bytes : List ℕ) → IsBytes bytes → IsBytes (take n bytes)
IsBytes-take n bytes h i =
    elim (cases_lt i n) [
      | inl lt ↦ rw (get_or-take n bytes i 0 lt) (h i)
      | inr le ↦ rw (get_or_past (take n bytes) i 0 (omega (arith, length-take n bytes))) (omega arith)
    ]

-- bytes behind one byte are bytes
pub IsBytes-rest : (b : ℕ) (bytes : List ℕ) → IsBytes (b ∷ bytes) → IsBytes bytes
IsBytes-rest b bytes h i = h (suc i)

-- the value of a step that gave one
pub bind_some : {A B : Type 0} (o : Option A) (f : A → Option B) (y : B) → (o >>= f) ≡ Some y → (x : A) × (o ≡ Some x) × (f x ≡ Some y)
bind_some (Some x) f y e = (x, refl, e)
bind_some None f y e = absurd cc

-- a test that has to fail, or to succeed, for something to be given
pub guard_false : {A : Type 0} (b : Bool) (x y : A) → cond b None (Some x) ≡ Some y → (b ≡ false) × (x ≡ y)
guard_false true x y e = absurd cc
guard_false false x y e = (refl, cc)

-- a test that has to fail before something is read
pub past_false : {A : Type 0} (b : Bool) (o : Option A) (y : A) → cond b None o ≡ Some y → (b ≡ false) × (o ≡ Some y)
past_false true o y e = absurd cc
past_false false o y e = (refl, e)

-- a test that has to succeed before something is read
pub past_true : {A : Type 0} (b : Bool) (o : Option A) (y : A) → cond b o None ≡ Some y → (b ≡ true) × (o ≡ Some y)
past_true true o y e = (refl, e)
past_true false o y e = absurd cc

-- something that was given, at a type that is known
abbrev some : {A : Type 0} → A → Option A
some x = Some x

-- what was given twice is one value
pub some_is : {A : Type 0} (x y : A) → some x ≡ some y → x ≡ y
some_is x y e = cc

-- what holds of the value that was made holds of the value that was given
pub given_as : {A : Type 0} (P : A → Type 0) (made x : A) → some made ≡ some x → P made → P x
given_as P made x e h = subst P (some_is made x e) h

-- what a reader took from the front
pub record Takes (bytes text rest : List ℕ) : Type 0 where
  pub parts : bytes ≡ text ++ rest
  pub rest_fits : IsBytes rest

-- nothing may be taken
pub Takes-none : (bytes : List ℕ) → IsBytes bytes → Takes bytes [] bytes
Takes-none bytes fits = record { parts = refl; rest_fits = fits }

-- a text and then a text are one text
pub Takes-then : (a x b y c : List ℕ) → Takes a x b → Takes b y c → Takes a (x ++ y) c
Takes-then a x b y c p q = record { parts = p.parts ∙ ap (λ (t : List ℕ). x ++ t) q.parts ∙ sym (append_assoc x y c); rest_fits = q.rest_fits }

-- ---- one byte

-- one byte that is read is spelled so
pub u1_takes : (bytes : List ℕ) (x : ℕ × List ℕ) → IsBytes bytes → u1_at bytes ≡ Some x → Takes bytes (x.0 ∷ []) x.1 × (x.0 < 256)
u1_takes [] x fits e = absurd cc
u1_takes (b ∷ rest) x fits e =
    given_as (λ (y : ℕ × List ℕ). Takes (b ∷ rest) (y.0 ∷ []) y.1 × (y.0 < 256)) (b, rest) x e (record { parts = refl; rest_fits = IsBytes-rest b rest fits }, fits 0)

-- ---- two bytes

-- two bytes that are read are the text of their number
pub u2_takes : (bytes : List ℕ) (x : ℕ × List ℕ) → IsBytes bytes → u2_at bytes ≡ Some x → Takes bytes (u2 x.0) x.1 × (x.0 < 2 ^ 16)
u2_takes bytes x fits e =
    let g = guard_false (ltb (length bytes) 2) (from_be_bytes w16 (take 2 bytes), drop 2 bytes) x e in
    let long : 2 ≤ length bytes = ltb-false _ _ g.0 in
    let front_fits = IsBytes-take 2 bytes fits in
    let front : u2 (from_be_bytes w16 (take 2 bytes)) ≡ take 2 bytes = be_bytes_2 (take 2 bytes) _ (omega (arith, length-take 2 bytes)) front_fits refl in
    let below : from_be_bytes w16 (take 2 bytes) < 2 ^ 16 = omega (arith, front_fits 0, front_fits 1) in
    let taken : Takes bytes (u2 (from_be_bytes w16 (take 2 bytes))) (drop 2 bytes) = record { parts = sym (take-append-drop 2 bytes) ∙ ap (λ (t : List ℕ). t ++ drop 2 bytes) (sym front); rest_fits = IsBytes-drop 2 bytes fits } in
    subst (λ (y : ℕ × List ℕ). Takes bytes (u2 y.0) y.1 × (y.0 < 2 ^ 16)) g.1 (taken, below)

-- a number of two bytes is read again, whatever follows
pub u2_again : (n : ℕ) (rest : List ℕ) → n < 2 ^ 16 → u2_at (u2 n ++ rest) ≡ Some (n, rest)
u2_again n rest lt =
    let long : ltb (length (u2 n ++ rest)) 2 ≡ false = le-ltb _ _ (omega (arith, length-append (u2 n) rest)) in
    rw long (ap (λ (k : ℕ). Some (k, rest)) (from_be_bytes-to_be_bytes_2 n lt))

-- ---- four bytes

-- four bytes that are read are the text of their number
pub u4_takes : (bytes : List ℕ) (x : ℕ × List ℕ) → IsBytes bytes → u4_at bytes ≡ Some x → Takes bytes (u4 x.0) x.1 × (x.0 < 2 ^ 32)
u4_takes bytes x fits e =
    let g = guard_false (ltb (length bytes) 4) (from_be_bytes w32 (take 4 bytes), drop 4 bytes) x e in
    let long : 4 ≤ length bytes = ltb-false _ _ g.0 in
    let front_fits = IsBytes-take 4 bytes fits in
    let front : u4 (from_be_bytes w32 (take 4 bytes)) ≡ take 4 bytes = be_bytes_4 (take 4 bytes) _ (omega (arith, length-take 4 bytes)) front_fits refl in
    let below : from_be_bytes w32 (take 4 bytes) < 2 ^ 32 = omega (arith, front_fits 0, front_fits 1, front_fits 2, front_fits 3) in
    let taken : Takes bytes (u4 (from_be_bytes w32 (take 4 bytes))) (drop 4 bytes) = record { parts = sym (take-append-drop 4 bytes) ∙ ap (λ (t : List ℕ). t ++ drop 4 bytes) (sym front); rest_fits = IsBytes-drop 4 bytes fits } in
    subst (λ (y : ℕ × List ℕ). Takes bytes (u4 y.0) y.1 × (y.0 < 2 ^ 32)) g.1 (taken, below)

-- a number of four bytes is read again, whatever follows
pub u4_again : (n : ℕ) (rest : List ℕ) → n < 2 ^ 32 → u4_at (u4 n ++ rest) ≡ Some (n, rest)
u4_again n rest lt =
    let long : ltb (length (u4 n ++ rest)) 4 ≡ false = le-ltb _ _ (omega (arith, length-append (u4 n) rest)) in
    rw long (ap (λ (k : ℕ). Some (k, rest)) (from_be_bytes-to_be_bytes_4 n lt))

-- ---- as many bytes

-- as many bytes as were asked for are read
pub bytes_take : (bytes : List ℕ) (count : ℕ) (x : List ℕ × List ℕ) → IsBytes bytes → bytes_at bytes count ≡ Some x → Takes bytes x.0 x.1 × (length x.0 ≡ count)
bytes_take bytes count x fits e =
    let g = guard_false (ltb (length bytes) count) (take count bytes, drop count bytes) x e in
    let long : count ≤ length bytes = ltb-false _ _ g.0 in
    let len : length (take count bytes) ≡ count = omega (arith, length-take count bytes) in
    let taken : Takes bytes (take count bytes) (drop count bytes) = record { parts = sym (take-append-drop count bytes); rest_fits = IsBytes-drop count bytes fits } in
    subst (λ (y : List ℕ × List ℕ). Takes bytes y.0 y.1 × (length y.0 ≡ count)) g.1 (taken, len)

-- bytes are read again, whatever follows
pub bytes_again : (text rest : List ℕ) (count : ℕ) → length text ≡ count → bytes_at (text ++ rest) count ≡ Some (text, rest)
bytes_again text rest count len =
    let long : ltb (length (text ++ rest)) count ≡ false = le-ltb _ _ (omega (arith, length-append text rest)) in
    rw (long, take_at text rest count len, drop_at text rest count len) refl
