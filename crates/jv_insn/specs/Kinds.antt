-- What the words of a frame hold: the words of a number, or a reference.
use Rattle.std.specs.Prelude.{◌≡◌, ℕ, ◌-◌, Bool, true, false, IsTrue, if◌then◌else◌, List, [], ◌∷◌, ◌++◌, length, Some, slice_get, slice_index_or, ◌⊎◌}
use Rattle.std.specs.List.{flat_map}
use Rattle.jv_table.specs.declared.code_tables.Cell.{Cell}
use Rattle.jv_table.specs.declared.code_tables.Cell.TheVariants.{Int, Float, Long, Double, Ref, Null}
use Rattle.jv_types.specs.declared.frames.VType.{VType, Top, Integer}
use Rattle.jv_types.specs.declared.frames.VType as types
use Rattle.jv_types.specs.declared.frames.Frame.{Frame}
use Rattle.jv_types.specs.declared.instruction.Insn.{Insn}
use Rattle.jv_insn.specs.Effects.{cells_given}
use Rattle.jv_insn.specs.Leaving.{Place, AtLocal, AtStack, Words, words_below, words_after}

-- ---- cells in a frame

-- a reference of any type, initialised or not
abbrev pub is_reference : VType → Bool
is_reference types.Top = false
is_reference types.Integer = false
is_reference types.Float = false
is_reference types.Long = false
is_reference types.Double = false
is_reference _ = true

-- these words of a frame hold a cell
abbrev pub HoldsCell : Cell → List VType → Type 0
HoldsCell Int words = words ≡ types.Integer ∷ []
HoldsCell Float words = words ≡ types.Float ∷ []
HoldsCell Long words = words ≡ types.Long ∷ types.Top ∷ []
HoldsCell Double words = words ≡ types.Double ∷ types.Top ∷ []
HoldsCell Ref words = (type : VType) × ((words ≡ type ∷ []) × IsTrue (is_reference type))
HoldsCell Null words = words ≡ types.Null ∷ []

-- these words hold these cells, one after the other
abbrev pub HoldsCells : List Cell → List VType → Type 0
HoldsCells [] words = words ≡ []
HoldsCells (cell ∷ cells) words =
    (first : List VType) × ((rest : List VType) × ((words ≡ first ++ rest) × HoldsCell cell first × HoldsCells cells rest))

-- the topmost words of a stack hold these cells, the last one on top
pub record EndsWithCells (cells : List Cell) (stack : List VType) : Type 0 where
  pub below : List VType
  pub top : List VType
  pub whole : stack ≡ below ++ top
  pub holds : HoldsCells cells top

-- ---- kinds of words

-- what a word holds: a word of a number, a reference, or nothing that is known
pub data WordKind : Type 0 where
  Word : WordKind
  Reference : WordKind
  Unknown : WordKind

-- the words of a cell
abbrev pub cell_words : Cell → List WordKind
cell_words Int = Word ∷ []
cell_words Float = Word ∷ []
cell_words Long = Word ∷ Word ∷ []
cell_words Double = Word ∷ Word ∷ []
cell_words Ref = Reference ∷ []
cell_words Null = Reference ∷ []

-- a type whose second word follows it
abbrev pub is_wide : VType → Bool
is_wide types.Long = true
is_wide types.Double = true
is_wide _ = false

-- the kind of a word of a type, where the word before is the first of two or isn't
abbrev pub kind_of : Bool → VType → WordKind
kind_of second types.Top = if second then Word else Unknown
kind_of second types.Integer = Word
kind_of second types.Float = Word
kind_of second types.Long = Word
kind_of second types.Double = Word
kind_of second _ = Reference

-- the kinds of words; the second word of a long or double is a word, though the frame has Top there
abbrev pub kinds_after : Bool → List VType → List WordKind
kinds_after second [] = []
kinds_after second (type ∷ types) = kind_of second type ∷ kinds_after (is_wide type) types

-- what the words of the local variables and of the stack hold
abbrev pub kinds_of : Frame → Words WordKind
kinds_of frame = record { locals = kinds_after false frame.locals; stack = kinds_after false frame.stack }

-- ---- what an instruction leaves

-- The kind of a word that is given anew, where the stack before has this depth: on the stack that of its cell.
-- The one local variable whose word is given anew has the int of an iinc.
abbrev pub kind_given : Insn → ℕ → Place → WordKind
kind_given insn depth (AtLocal local) = Word
kind_given insn depth (AtStack place) = slice_index_or (flat_map cell_words (cells_given insn.op insn.arg)) (place - words_below insn depth) Unknown

-- the kinds of the words after an instruction: a word that is left keeps its kind
abbrev pub kinds_left : Insn → Words WordKind → Words WordKind
kinds_left insn words = words_after insn (kind_given insn (length words.stack)) words

-- a frame says that a word holds something only where these words do
abbrev pub SaysOnly : List WordKind → List WordKind → Type 0
SaysOnly said words =
    (place : ℕ) (kind : WordKind) → slice_get said place ≡ Some kind → (kind ≡ Unknown) ⊎ (slice_get words place ≡ Some kind)

-- a frame says no more than holds of these words: it claims no word that isn't there, and its stack is as deep
pub record SaysNoMore (said words : Words WordKind) : Type 0 where
  pub locals : SaysOnly said.locals words.locals
  pub stack : SaysOnly said.stack words.stack
  pub depth : length said.stack ≡ length words.stack
