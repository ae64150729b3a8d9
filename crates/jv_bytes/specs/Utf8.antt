-- Modified UTF-8 (JVMS 4.4.7): a text is a list of UTF-16 units, and each unit has one spelling.
use Rattle.std.specs.Prelude.{◌≡◌, ◌<◌, ◌≤◌, ◌+◌, ◌*◌, ◌-◌, ◌⊎◌, ℕ, List, [], ◌∷◌, ◌++◌}

-- a byte that goes on with a unit: its high bits are 10
abbrev pub GoesOn : ℕ → Type 0
GoesOn b = (128 ≤ b) × (b < 192)

-- The bytes of a unit. U+0001 to U+007F are one byte; U+0000 and U+0080 to U+07FF are two, of which
-- the first has the high bits 110; all others are three, of which the first has the high bits 1110.
abbrev pub IsUnitText : List ℕ → ℕ → Type 0
IsUnitText [] unit = ⊥
IsUnitText (a ∷ []) unit = (1 ≤ a) × (a < 128) × (unit ≡ a)
IsUnitText (a ∷ b ∷ []) unit =
    (192 ≤ a) × (a < 224) × GoesOn b × (unit ≡ 64 * (a - 192) + (b - 128)) × ((unit ≡ 0) ⊎ (128 ≤ unit))
IsUnitText (a ∷ b ∷ c ∷ []) unit =
    (224 ≤ a) × (a < 240) × GoesOn b × GoesOn c × (unit ≡ 4096 * (a - 224) + 64 * (b - 128) + (c - 128)) × (2048 ≤ unit)
IsUnitText (a ∷ b ∷ c ∷ d ∷ more) unit = ⊥

-- the bytes begin with the spelling of this unit, and go on with the rest
pub record Begins (bytes : List ℕ) (unit : ℕ) (rest : List ℕ) : Type 0 where
  pub front : List ℕ
  pub spelled : IsUnitText front unit
  pub parts : bytes ≡ front ++ rest

-- the bytes are the spelling of these units, one after the other
abbrev pub IsText : List ℕ → List ℕ → Type 0
IsText bytes [] = bytes ≡ []
IsText bytes (unit ∷ units) = (rest : List ℕ) × Begins bytes unit rest × IsText rest units
