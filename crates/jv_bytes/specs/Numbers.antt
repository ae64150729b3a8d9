-- Numbers as bytes, the highest byte first (JVMS 4.1: all numbers of a class file are big-endian).
use Rattle.std.specs.Prelude.{◌≡◌, ◌<◌, ℕ, List, length, slice_index}
use Rattle.byteorder.specs.Endian.{big_number, big_bytes}

-- each item is a byte
abbrev pub IsByteString : List ℕ → Type 0
IsByteString bytes = (i : ℕ) → slice_index bytes i < 256

-- the number that the first n bytes are read as
unfoldable pub number_in : ℕ → List ℕ → ℕ
number_in n bytes = big_number n bytes

-- the n bytes that are read as a number
unfoldable pub number_text : ℕ → ℕ → List ℕ
number_text n number = big_bytes n number

-- these n bytes are read as this number
pub record IsNumberText (n : ℕ) (bytes : List ℕ) (number : ℕ) : Type 0 where
  pub len : length bytes ≡ n
  pub each : IsByteString bytes
  pub read : number_in n bytes ≡ number
