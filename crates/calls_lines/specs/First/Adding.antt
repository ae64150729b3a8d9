-- The text that something may have, texts that are made of others, and lines that are added to lines.
use Rattle.std.specs.Prelude.{◌≡◌, ℕ, ◌⊎◌, ◌↔◌, List, ◌++◌, Option, Some, None, option_map, codes, Contains, AllPairs}
use Rattle.std.specs.Ordering.{nat_cmp}
use Rattle.std.specs.declared.cmp.Ordering.TheVariants.{Less}
use Rattle.std.specs.Cmp.Lexicographic.{slice_cmp}
use Rattle.std.specs.Fmt.{decimal}

-- the one text of P, and none where P has no text
pub record IsTextOf (P : List ℕ → Type 0) (found : Option (List ℕ)) : Type 0 where
  pub exact : (text : List ℕ) → P text ↔ (found ≡ Some text)

-- a word and a text behind it, if there is one
abbrev pub worded : List ℕ → Option (List ℕ) → Option (List ℕ)
worded word part = option_map (λ text. word ++ text) part

-- a word, a text behind it, if there is one, a space, and a number in decimal
abbrev pub numbered : List ℕ → Option (List ℕ) → ℕ → Option (List ℕ)
numbered word part number = option_map (λ text. word ++ text ++ codes " " ++ decimal number) part

-- a word, two texts behind it, if there are both, and a space between them
abbrev pub paired : List ℕ → Option (List ℕ) → Option (List ℕ) → Option (List ℕ)
paired word None second = None
paired word (Some a) second = option_map (λ b. word ++ a ++ codes " " ++ b) second

-- the lines of P were added, and nothing else has changed
pub record AddsLines (P : List ℕ → Type 0) (old new : List (List ℕ)) : Type 0 where
  pub sorted : AllPairs (λ a b. slice_cmp nat_cmp a b ≡ Less) old → AllPairs (λ a b. slice_cmp nat_cmp a b ≡ Less) new
  pub exact : (line : List ℕ) → Contains new line ↔ (Contains old line ⊎ P line)
