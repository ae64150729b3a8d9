-- Reading from the front of a list of bytes: a value and what is left, or nothing. Readers are proved to
-- give what such functions give.
use Rattle.std.specs.Prelude.{◌≡◌, ℕ, zero, suc, List, [], ◌∷◌, length, take, drop, Option, Some, None, Result, Ok, Err, nat_lt, if◌then◌else◌}
use Rattle.std.specs.Str.{bytes_eq}
use Rattle.jv_bytes.specs.Numbers.{number_in, number_text}
use Rattle.jv_read.specs.declared.fault.ReadFault.{ReadFault}
use Rattle.jv_read.specs.declared.fault.ReadFault.TheVariants as faults

-- one step and then another, where both give something
infixl 10 ◌>>=◌
abbrev pub ◌>>=◌ : {A B : Type 0} → Option A → (A → Option B) → Option B
None >>= f = None
(Some x) >>= f = f x

-- ---- what a reader answers

-- a reader that was refused for what it read found nothing
abbrev pub Fails : {Y : Type 0} → ReadFault → Option Y → Type 0
Fails faults.Memory read = Unit {0}
Fails faults.Bad read = read ≡ None

-- what a reader answered, seen by view, with what it left, is what reading gives, unless memory ran out
abbrev pub Gives : {X Y : Type 0} → (X → Y) → Result X ReadFault → List ℕ → Option (Y × List ℕ) → Type 0
Gives view (Ok x) left read = read ≡ Some (view x, left)
Gives view (Err e) left read = Fails e read

-- the same, where all of the bytes are read
abbrev pub GivesAll : {X Y : Type 0} → (X → Y) → Result X ReadFault → Option Y → Type 0
GivesAll view (Ok x) read = read ≡ Some (view x)
GivesAll view (Err e) read = Fails e read

-- ---- numbers and bytes

-- a byte
unfoldable pub u1_at : List ℕ → Option (ℕ × List ℕ)
u1_at [] = None
u1_at (b ∷ rest) = Some (b, rest)

-- the number of n bytes, where they are its text
unfoldable pub number_at : ℕ → List ℕ → Option (ℕ × List ℕ)
number_at n bytes =
    if bytes_eq (take n bytes) (number_text n (number_in n bytes)) then Some (number_in n bytes, drop n bytes) else None

abbrev pub u2_at : List ℕ → Option (ℕ × List ℕ)
u2_at bytes = number_at 2 bytes

abbrev pub u4_at : List ℕ → Option (ℕ × List ℕ)
u4_at bytes = number_at 4 bytes

-- as many bytes as count says
unfoldable pub bytes_at : ℕ → List ℕ → Option (List ℕ × List ℕ)
bytes_at count bytes = if nat_lt (length bytes) count then None else Some (take count bytes, drop count bytes)

-- ---- repeated parts

-- as many parts, one after the other
unfoldable pub many_at : {A : Type 0} → (List ℕ → Option (A × List ℕ)) → ℕ → List ℕ → Option (List A × List ℕ)
many_at one zero bytes = Some ([], bytes)
many_at one (suc n) bytes = do
  first ← one bytes
  others ← many_at one n first.1
  Some (first.0 ∷ others.0, others.1)

-- a count of two bytes, and as many parts
unfoldable pub counted_at : {A : Type 0} → (List ℕ → Option (A × List ℕ)) → List ℕ → Option (List A × List ℕ)
counted_at one bytes = do
  count ← u2_at bytes
  many_at one count.0 count.1
