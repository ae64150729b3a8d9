-- Reading from the front of a list of bytes: a value and what is left, or nothing. Readers are proved to
-- give what these functions give; laws of lists join the functions with the texts of Layout.
use Rattle.std.specs.Prelude.{◌≡◌, ℕ, List, [], ◌∷◌, length, take, drop, Option, Some, None, Result, Ok, Err, nat_lt, if◌then◌else◌}
use Rattle.std.specs.Int.{w16, w32, from_be_bytes}
use Rattle.calls_form.specs.declared.read_error.ReadError.{ReadError}
use Rattle.calls_form.specs.declared.read_error.ReadError.TheVariants as errors

infixl 10 ◌>>=◌
abbrev pub ◌>>=◌ : {A B : Type 0} → Option A → (A → Option B) → Option B
None >>= f = None
(Some x) >>= f = f x

-- what a reader answered, seen by view, is what reading gives, unless memory ran out
abbrev pub Fails : {Y : Type 0} → ReadError → Option Y → Type 0
Fails errors.Memory read = Unit {0}
Fails errors.Malformed read = read ≡ None

abbrev pub Gives : {X Y : Type 0} → (X → Y) → Result X ReadError → Option Y → Type 0
Gives view (Ok x) read = read ≡ Some (view x)
Gives view (Err e) read = Fails e read

abbrev pub u1_at : List ℕ → Option (ℕ × List ℕ)
u1_at [] = None
u1_at (b ∷ rest) = Some (b, rest)

abbrev pub u2_at : List ℕ → Option (ℕ × List ℕ)
u2_at bytes = if nat_lt (length bytes) 2 then None else Some (from_be_bytes w16 (take 2 bytes), drop 2 bytes)

abbrev pub u4_at : List ℕ → Option (ℕ × List ℕ)
u4_at bytes = if nat_lt (length bytes) 4 then None else Some (from_be_bytes w32 (take 4 bytes), drop 4 bytes)

-- as many bytes as count says
abbrev pub bytes_at : List ℕ → ℕ → Option (List ℕ × List ℕ)
bytes_at bytes count = if nat_lt (length bytes) count then None else Some (take count bytes, drop count bytes)
