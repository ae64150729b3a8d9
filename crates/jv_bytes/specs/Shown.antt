-- How a text is shown on a line: printable bytes as they are, and the others by their hexadecimal number.
use Rattle.std.specs.Prelude.{ℕ, ◌+◌, ◌/◌, ◌%◌, Bool, ◌&&◌, not, nat_le, nat_lt, ◌==◌, if◌then◌else◌, List, [], ◌∷◌}
use Rattle.std.specs.List.{flat_map}

-- the capital hexadecimal digit of a number below sixteen
abbrev pub capital_digit : ℕ → ℕ
capital_digit n = if nat_lt n 10 then 48 + n else 55 + n

-- whether a byte is shown as it is: from `!` (0x21) to `~` (0x7E), but for `%` (0x25)
abbrev pub stays : ℕ → Bool
stays b = (nat_le 33 b && nat_le b 126) && not (b == 37)

-- the shown form of a byte: itself, or `%` and two hexadecimal digits
abbrev pub shown_byte : ℕ → List ℕ
shown_byte b = if stays b then b ∷ [] else 37 ∷ capital_digit (b / 16) ∷ capital_digit (b % 16) ∷ []

-- the shown form of a text
abbrev pub shown_text : List ℕ → List ℕ
shown_text bytes = flat_map shown_byte bytes
