-- A number has one text of each length, and what is read is what was written.
use Rattle.std.proofs.Common.{◌≡◌, ℕ, zero, suc, ◌+◌, ◌*◌, ◌^◌, ◌<◌, ◌≤◌, ◌/◌, List, [], ◌∷◌, ◌++◌, length, refl, sym, ap, subst, ◌∙◌, arith}
use Rattle.std.proofs.lemmas.List.{append_cancel_left}
use Rattle.std.specs.Int.{byte_at, bytes_high_first}
use Rattle.std.proofs.lemmas.Nat.{same_from_place, mod_below}
use Rattle.byteorder.specs.Endian.{big_from}
use Rattle.byteorder.specs.Numbers.{big_from-cons, big_from-lt, big_from-append, big_number-reads_back, length-bytes_high_first}
use Rattle.jv_bytes.specs.Numbers.{IsByteString, IsNumberText, number_in, number_text}

-- what follows the first byte are bytes
pub IsByteString-rest : (b : ℕ) (bytes : List ℕ) → IsByteString (b ∷ bytes) → IsByteString bytes
IsByteString-rest b bytes each i = each (suc i)

-- a first byte and the bytes after it
pub IsByteString-cons : (b : ℕ) (bytes : List ℕ) → b < 256 → IsByteString bytes → IsByteString (b ∷ bytes)
IsByteString-cons b bytes first each zero = first
IsByteString-cons b bytes first each (suc i) = each i

-- two strings of one length that are read as one number are one
same_bytes : (n : ℕ) (a b : List ℕ) → length a ≡ n → length b ≡ n → IsByteString a → IsByteString b → big_from 0 n a ≡ big_from 0 n b → a ≡ b
same_bytes zero [] [] la lb ea eb e = refl
same_bytes zero [] (y ∷ ys) la lb ea eb e = absurd (omega arith)
same_bytes zero (x ∷ xs) b la lb ea eb e = absurd (omega arith)
same_bytes (suc n) [] b la lb ea eb e = absurd (omega arith)
same_bytes (suc n) (x ∷ xs) [] la lb ea eb e = absurd (omega arith)
same_bytes (suc n) (x ∷ xs) (y ∷ ys) la lb ea eb e =
    let ex = IsByteString-rest x xs ea in
    let ey = IsByteString-rest y ys eb in
    let low_x = big_from-lt 0 n xs ex in
    let low_y = big_from-lt 0 n ys ey in
    let moved_x = big_from-cons 0 n x xs in
    let moved_y = big_from-cons 0 n y ys in
    let same : x * 256 ^ n + big_from 0 n xs ≡ y * 256 ^ n + big_from 0 n ys = ap (λ (r : ℕ). x * 256 ^ n + r) (sym moved_x) ∙ e ∙ ap (λ (r : ℕ). y * 256 ^ n + r) moved_y in
    let parts = same_from_place x (big_from 0 n xs) y (big_from 0 n ys) (256 ^ n) low_x low_y same in
    let rest = same_bytes n xs ys (omega arith) (omega arith) ex ey parts.1 in
    ap (λ (z : ℕ). z ∷ xs) parts.0 ∙ ap (λ (zs : List ℕ). y ∷ zs) rest

-- no byte at all
pub no_bytes : IsByteString []
no_bytes i = omega arith

-- a byte of a number is a byte
byte_at-lt : (k x : ℕ) → byte_at k x < 256
byte_at-lt zero x = mod_below x 256 (omega arith)
byte_at-lt (suc k) x = mod_below (x / 256 ^ suc k) 256 (omega arith)

-- the bytes of a number are bytes
bytes-each : (n x : ℕ) → IsByteString (bytes_high_first n x)
bytes-each zero x = λ i. omega arith
bytes-each (suc n) x = IsByteString-cons (byte_at n x) (bytes_high_first n x) (byte_at-lt n x) (bytes-each n x)

-- the text of a number of n bytes has n bytes
pub length-number_text : (n v : ℕ) → length (number_text n v) ≡ n
unfolding number_text
length-number_text n v = length-bytes_high_first n v

-- the text of a number is bytes
pub number_text-each : (n v : ℕ) → IsByteString (number_text n v)
unfolding number_text
number_text-each n v = bytes-each n v

-- what is read is what was written, whatever follows
pub number_in-number_text : (n v : ℕ) (rest : List ℕ) → v < 256 ^ n → number_in n (number_text n v ++ rest) ≡ v
unfolding number_in number_text
number_in-number_text n v rest lt = big_number-reads_back n v rest lt

-- a number is read from the first bytes alone
pub number_in-append : (n : ℕ) (front rest : List ℕ) → n ≤ length front → number_in n (front ++ rest) ≡ number_in n front
unfolding number_in
number_in-append n front rest le = big_from-append n front rest le

-- a number that is read fits
pub number_in-lt : (n : ℕ) (bytes : List ℕ) → IsByteString bytes → number_in n bytes < 256 ^ n
unfolding number_in
number_in-lt n bytes each = big_from-lt 0 n bytes each

-- two strings of one length that are read as one number are one
pub one_number_text : (n : ℕ) (a b : List ℕ) → length a ≡ n → length b ≡ n → IsByteString a → IsByteString b → number_in n a ≡ number_in n b → a ≡ b
unfolding number_in
one_number_text n a b la lb ea eb e = same_bytes n a b la lb ea eb e

-- what is written is what was read
pub number_text-number_in : (n : ℕ) (bytes : List ℕ) → length bytes ≡ n → IsByteString bytes → number_text n (number_in n bytes) ≡ bytes
unfolding number_in number_text
number_text-number_in n bytes len each =
    let lt = big_from-lt 0 n bytes each in
    let again : big_from 0 n (bytes_high_first n (big_from 0 n bytes)) ≡ big_from 0 n bytes =
    sym (big_from-append n (bytes_high_first n (big_from 0 n bytes)) [] (omega (arith, length-bytes_high_first n (big_from 0 n bytes)))) ∙ big_number-reads_back n (big_from 0 n bytes) [] lt in
    same_bytes n (bytes_high_first n (big_from 0 n bytes)) bytes (length-bytes_high_first n (big_from 0 n bytes)) len (bytes-each n (big_from 0 n bytes)) each again

-- the text that is read from the front is the text of the number
pub front_is_text : (n v : ℕ) (bytes front rest : List ℕ) → length front ≡ n → IsByteString front → v ≡ number_in n front → bytes ≡ front ++ rest → bytes ≡ number_text n v ++ rest
front_is_text n v bytes front rest len each read parts =
    parts ∙ ap (λ (t : List ℕ). t ++ rest) (sym (ap (number_text n) read ∙ number_text-number_in n front len each))

-- the number that is read from the front is the number of all the bytes
pub front_is_number : (n v : ℕ) (bytes front rest : List ℕ) → length front ≡ n → v ≡ number_in n front → bytes ≡ front ++ rest → v ≡ number_in n bytes
front_is_number n v bytes front rest len read parts =
    read ∙ sym (ap (number_in n) parts ∙ number_in-append n front rest (omega arith))

-- these bytes, and no others, are read as the number
pub number_text-read : (n v : ℕ) → v < 256 ^ n → IsNumberText n (number_text n v) v
number_text-read n v lt = record {
  len = length-number_text n v;
  each = number_text-each n v;
  read = sym (number_in-append n (number_text n v) [] (omega (arith, length-number_text n v))) ∙ number_in-number_text n v [] lt;
}

pub number_text-only : (n v : ℕ) (bytes : List ℕ) → IsNumberText n bytes v → bytes ≡ number_text n v
number_text-only n v bytes h = sym (number_text-number_in n bytes h.len h.each) ∙ ap (number_text n) h.read

pub number_text-fits : (n v : ℕ) (bytes : List ℕ) → IsNumberText n bytes v → v < 256 ^ n
number_text-fits n v bytes h = subst (λ (x : ℕ). x < 256 ^ n) h.read (number_in-lt n bytes h.each)

pub numbers_one : (n v : ℕ) (a b : List ℕ) → IsNumberText n a v → IsNumberText n b v → a ≡ b
numbers_one n v a b p q = one_number_text n a b p.len q.len p.each q.each (p.read ∙ sym q.read)

-- two readings of one text agree
pub number_fronts : (n a b : ℕ) (x y : List ℕ) → a < 256 ^ n → b < 256 ^ n → number_text n a ++ x ≡ number_text n b ++ y → (a ≡ b) × (x ≡ y)
number_fronts n a b x y la lb e =
    let same : a ≡ b = sym (number_in-number_text n a x la) ∙ ap (number_in n) e ∙ number_in-number_text n b y lb in
    let fronts : number_text n b ++ x ≡ number_text n b ++ y = ap (λ (k : ℕ). number_text n k ++ x) (sym same) ∙ e in
    (same, append_cancel_left (number_text n b) x y fronts)

-- the numbers that are read are those of the crate byteorder
pub number_in-is : (n : ℕ) (bytes : List ℕ) → number_in n bytes ≡ big_from 0 n bytes
unfolding number_in
number_in-is n bytes = refl
