-- What is read from the front is spelled so, and what is spelled so is read: numbers and runs of bytes.
use Rattle.std.proofs.Common.{◌≡◌, ℕ, ◌+◌, ◌*◌, ◌^◌, ◌<◌, ◌≤◌, Bool, true, false, cond, ltb, List, [], ◌∷◌, ◌++◌, length, take, drop, Option, Some, None, refl, sym, ap, subst, ◌∙◌, append_assoc, arith, Bor}
use Rattle.std.specs.Prelude.{IfSome, OnSome, IsNone, ok_or, ◌↔◌}
use Rattle.std.specs.Str.{bytes_eq}
use Rattle.std.proofs.lemmas.Bool.{ltb-true, ltb-false, le-ltb, lt-ltb}
use Rattle.std.proofs.lemmas.List.{take_at, drop_at, take-append-drop, length-append, length-take}
use Rattle.std.proofs.lemmas.Slice.Eq.{bytes_eq-Decides}
use Rattle.jv_bytes.specs.Numbers.{number_in, number_text}
use Rattle.jv_bytes.proofs.NumberLaws.{length-number_text, number_text-each, number_text-only, number_in-is, number_in-number_text, number_in-append, number_in-lt, IsByteString-cons, no_bytes}
use Rattle.jv_read.specs.Reading.{◌>>=◌, Gives, u1_at, number_at, bytes_at}
use Rattle.jv_read.specs.declared.fault.ReadFault.TheVariants.{Bad}

-- ---- steps

-- the value of a step that gave one
pub bind_some : {A B : Type 0} (o : Option A) (f : A → Option B) (y : B) → (o >>= f) ≡ Some y → (x : A) × (o ≡ Some x) × (f x ≡ Some y)
bind_some (Some x) f y e = (x, refl, e)
bind_some None f y e = absurd cc

-- a step that gives a value goes on with it
pub bind_is : {A B : Type 0} (o : Option A) (f : A → Option B) (x : A) → o ≡ Some x → (o >>= f) ≡ f x
bind_is {A} {B} o f x e = ap (λ (p : Option A). p >>= f) e

-- a test that has to fail before something is read
pub past_false : {A : Type 0} (b : Bool) (o : Option A) (y : A) → cond b None o ≡ Some y → (b ≡ false) × (o ≡ Some y)
past_false true o y e = absurd cc
past_false false o y e = (refl, e)

-- a test that has to succeed before something is read
pub past_true : {A : Type 0} (b : Bool) (o : Option A) (y : A) → cond b o None ≡ Some y → (b ≡ true) × (o ≡ Some y)
past_true true o y e = (refl, e)
past_true false o y e = absurd cc

-- something that was given, at a type that is known
abbrev some : {A : Type 0} → A → Option A
some x = Some x

-- nothing, at a type that is known
abbrev none_of : (A : Type 0) → Option A
none_of A = None

-- what was given twice is one value
pub some_is : {A : Type 0} (x y : A) → some x ≡ some y → x ≡ y
some_is x y e = cc

-- what holds of the value that was made holds of the value that was given
pub given_as : {A : Type 0} (P : A → Type 0) (made x : A) → some made ≡ some x → P made → P x
given_as P made x e h = subst P (some_is made x e) h

-- bytes are those of a text and others behind it, of which a front is another text
pub joined : (bytes a b rest rest' : List ℕ) → bytes ≡ a ++ rest → rest ≡ b ++ rest' → bytes ≡ (a ++ b) ++ rest'
joined bytes a b rest rest' p q = p ∙ ap (λ (r : List ℕ). a ++ r) q ∙ sym (append_assoc a b rest')

-- bytes are equal to themselves
pub bytes_eq_itself : (xs : List ℕ) → bytes_eq xs xs ≡ true
bytes_eq_itself xs = (bytes_eq-Decides xs xs).1 refl

-- what isn't true is false
pub false_if : (b : Bool) → (b ≡ true → ⊥) → b ≡ false
false_if true h = absurd (h refl)
false_if false h = refl

-- bytes that aren't equal are told apart
not_equal : (xs ys : List ℕ) → (xs ≡ ys → ⊥) → bytes_eq xs ys ≡ false
not_equal xs ys h = false_if (bytes_eq xs ys) (λ t. h ((bytes_eq-Decides xs ys).0 t))

-- ---- a byte

pub u1_takes : (bytes : List ℕ) (x : ℕ × List ℕ) → u1_at bytes ≡ Some x → bytes ≡ x.0 ∷ x.1
unfolding u1_at
u1_takes [] x e = absurd cc
u1_takes (b ∷ rest) x e =
    let made : ℕ × List ℕ = (b, rest) in
    given_as (λ (y : ℕ × List ℕ). b ∷ rest ≡ y.0 ∷ y.1) made x e refl

pub u1_again : (b : ℕ) (rest : List ℕ) → u1_at (b ∷ rest) ≡ Some (b, rest)
unfolding u1_at
u1_again b rest = refl

-- the reader's answer
pub u1_gives : (o : Option ℕ) (old new : List ℕ) → IfSome o (λ b. old ≡ b ∷ new) → (IsNone o ↔ (old ≡ [])) → Gives (λ (x : ℕ). x) (ok_or o Bad) new (u1_at old)
unfolding u1_at
u1_gives (Some b) old new found none = ap u1_at found
u1_gives None old new found none = ap u1_at (none.0 refl)

-- ---- a number

-- a number that is read fits its bytes
pub number_fits : (n v : ℕ) (bytes rest : List ℕ) → v ≡ number_in n bytes → bytes ≡ number_text n v ++ rest → v < 256 ^ n
number_fits n v bytes rest read parts =
    let len : n ≤ length (number_text n v) = omega (arith, length-number_text n v) in
    let alone : v ≡ number_in n (number_text n v) = read ∙ ap (number_in n) parts ∙ number_in-append n (number_text n v) rest len in
    subst (λ (k : ℕ). k < 256 ^ n) (sym alone) (number_in-lt n (number_text n v) (number_text-each n v))

pub number_takes : (n : ℕ) (bytes : List ℕ) (x : ℕ × List ℕ) → number_at n bytes ≡ Some x → (bytes ≡ number_text n x.0 ++ x.1) × (x.0 < 256 ^ n)
unfolding number_at
number_takes n bytes x e =
    let v = number_in n bytes in
    let made : ℕ × List ℕ = (v, drop n bytes) in
    let g = past_true (bytes_eq (take n bytes) (number_text n v)) (Some made) x e in
    let front : take n bytes ≡ number_text n v = (bytes_eq-Decides (take n bytes) (number_text n v)).0 g.0 in
    let whole : bytes ≡ number_text n v ++ drop n bytes = sym (take-append-drop n bytes) ∙ ap (λ (t : List ℕ). t ++ drop n bytes) front in
    let fits : v < 256 ^ n = number_fits n v bytes (drop n bytes) refl whole in
    given_as (λ (y : ℕ × List ℕ). (bytes ≡ number_text n y.0 ++ y.1) × (y.0 < 256 ^ n)) made x g.1 (whole, fits)

pub number_again : (n v : ℕ) (rest : List ℕ) → v < 256 ^ n → number_at n (number_text n v ++ rest) ≡ Some (v, rest)
unfolding number_at
number_again n v rest lt =
    let read : number_in n (number_text n v ++ rest) ≡ v = number_in-number_text n v rest lt in
    let front : take n (number_text n v ++ rest) ≡ number_text n v = take_at (number_text n v) rest n (length-number_text n v) in
    let behind : drop n (number_text n v ++ rest) ≡ rest = drop_at (number_text n v) rest n (length-number_text n v) in
    let same = bytes_eq_itself (number_text n v) in
    rw (read, front, behind, same) refl

-- too few bytes have no number
pub number_short : (n : ℕ) (bytes : List ℕ) → length bytes < n → number_at n bytes ≡ None
unfolding number_at
number_short n bytes lt =
    let v = number_in n bytes in
    let apart : bytes_eq (take n bytes) (number_text n v) ≡ false =
    not_equal (take n bytes) (number_text n v) (λ e. omega (arith, length-take n bytes, length-number_text n v, ap length e)) in
    rw apart refl

-- where no number is read, none begins the bytes
pub number_refuses : (n v : ℕ) (bytes rest : List ℕ) → number_at n bytes ≡ None → v < 256 ^ n → bytes ≡ number_text n v ++ rest → ⊥
number_refuses n v bytes rest none lt parts =
    let read : number_at n bytes ≡ Some (v, rest) = ap (number_at n) parts ∙ number_again n v rest lt in
    let both : none_of (ℕ × List ℕ) ≡ some (v, rest) = sym none ∙ read in
    absurd cc

-- the reader's answer
pub number_gives : (n : ℕ) (o : Option ℕ) (old new : List ℕ) → IfSome o (λ v. old ≡ number_text n v ++ new) → IfSome o (λ v. v ≡ number_in n old) → (IsNone o ↔ (length old < n))
    → Gives (λ (x : ℕ). x) (ok_or o Bad) new (number_at n old)
number_gives n (Some v) old new found read none = ap (number_at n) found ∙ number_again n v new (number_fits n v old new read found)
number_gives n None old new found read none = number_short n old (none.0 refl)

-- ---- a byte as a number

pub byte_text : (b : ℕ) → b < 256 → number_text 1 b ≡ b ∷ []
byte_text b lt =
    let read : number_in 1 (b ∷ []) ≡ b * 1 + 0 = number_in-is 1 (b ∷ []) in
    let alone : b * 1 + 0 ≡ b = omega arith in
    sym (number_text-only 1 b (b ∷ []) (record { len = refl; each = IsByteString-cons b [] lt no_bytes; read = read ∙ alone }))

-- the reader's answer
pub byte_gives : (o : Option ℕ) (old new : List ℕ) → IfSome o (λ b. old ≡ b ∷ new) → IfSome o (λ b. b < 256) → (IsNone o ↔ (old ≡ [])) → Gives (λ (x : ℕ). x) (ok_or o Bad) new (number_at 1 old)
byte_gives (Some b) old new found lt none =
    let text : b ∷ new ≡ number_text 1 b ++ new = ap (λ (t : List ℕ). t ++ new) (sym (byte_text b lt)) in
    ap (number_at 1) (found ∙ text) ∙ number_again 1 b new lt
byte_gives None old new found lt none = number_short 1 old (omega (arith, ap length (none.0 refl)))

-- ---- as many bytes

pub bytes_take : (count : ℕ) (bytes : List ℕ) (x : List ℕ × List ℕ) → bytes_at count bytes ≡ Some x → (bytes ≡ x.0 ++ x.1) × (length x.0 ≡ count)
unfolding bytes_at
bytes_take count bytes x e =
    let made : List ℕ × List ℕ = (take count bytes, drop count bytes) in
    let g = past_false (ltb (length bytes) count) (Some made) x e in
    let long : count ≤ length bytes = ltb-false _ _ g.0 in
    let len : length (take count bytes) ≡ count = omega (arith, length-take count bytes) in
    given_as (λ (y : List ℕ × List ℕ). (bytes ≡ y.0 ++ y.1) × (length y.0 ≡ count)) made x g.1 (sym (take-append-drop count bytes), len)

pub bytes_again : (text rest : List ℕ) (count : ℕ) → length text ≡ count → bytes_at count (text ++ rest) ≡ Some (text, rest)
unfolding bytes_at
bytes_again text rest count len =
    let long : ltb (length (text ++ rest)) count ≡ false = le-ltb _ _ (omega (arith, length-append text rest)) in
    rw (long, take_at text rest count len, drop_at text rest count len) refl

-- the reader's answer
pub bytes_give : (count : ℕ) (o : Option (Bor (List ℕ))) (old new : List ℕ) → IfSome o (λ b. b.now ≡ take count old) → OnSome o (new ≡ drop count old) → (IsNone o ↔ (length old < count))
    → Gives (λ (b : Bor (List ℕ)). b.now) (ok_or o Bad) new (bytes_at count old)
unfolding bytes_at
bytes_give count (Some b) old new front rest none =
    let enough : IsNone (some b) → ⊥ = λ n. absurd cc in
    let long : ltb (length old) count ≡ false = false_if (ltb (length old) count) (λ t. enough (none.1 (ltb-true (length old) count t))) in
    rw (long, front, rest) refl
bytes_give count None old new front rest none =
    let short : ltb (length old) count ≡ true = lt-ltb (length old) count (none.0 refl) in
    rw short refl
