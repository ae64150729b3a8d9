-- The words that an instruction finds, and those that it leaves (JVMS 2.6.1, 2.6.2, 6.5).
use Rattle.std.specs.Prelude.{◌≡◌, ℕ, ◌-◌, ◌++◌, List, [], ◌∷◌, All, length, map, take, drop, replicate, slice_index_or}
use Rattle.std.specs.List.{flat_map}
use Rattle.jv_table.specs.declared.code_tables.Cell.{Cell}
use Rattle.jv_types.specs.declared.instruction.Insn.{Insn}
use Rattle.jv_insn.specs.Effects.{desc_cell, effect_of}
use Rattle.jv_insn.specs.KindSafe.{HasWords}
use Rattle.jv_insn.specs.Kinds.{WordKind, Word, Reference, cell_words}
use Rattle.jv_insn.specs.Leaving.{Place, AtLocal, AtStack, Words, words_after, words_below}
use Rattle.jv_types.specs.declared.desc.Desc.{Desc}
use Rattle.av_states.specs.declared.held.Held.{Held}
use Rattle.av_states.specs.declared.held.Held.TheVariants as held

-- the kind of what a word holds
abbrev pub kind_of_held : Held → WordKind
kind_of_held held.Null = Reference
kind_of_held (held.Ref number) = Reference
kind_of_held held.Word = Word

-- the words are those of the cells: of a long or double two
abbrev pub HoldCells : List Cell → List Held → Type 0
HoldCells cells words = map kind_of_held words ≡ flat_map cell_words cells

-- a local variable holds a cell
abbrev pub LocalHoldsCell : List Held → ℕ × Cell → Type 0
LocalHoldsCell locals read = HoldCells (read.1 ∷ []) (take (length (cell_words read.1)) (drop read.0 locals))

-- An instruction finds its operands, of the kinds that it takes; these are the topmost words of the stack that are
-- the cells. One that doesn't find them is wanting, and can only throw.
pub record HasOperands (insn : Insn) (words : Words Held) (taken : List Held) : Type 0 where
  pub below : List Held
  pub whole : words.stack ≡ below ++ taken
  pub takes : HoldCells (effect_of insn).takes taken
  pub moves : HasWords (effect_of insn).shuffle (length words.stack)
  pub reads : All (LocalHoldsCell words.locals) (effect_of insn).reads

abbrev pub IsWanting : Insn → Words Held → Type 0
IsWanting insn words = (taken : List Held) → HasOperands insn words taken → ⊥

-- ---- the words afterwards

-- the words of a value of a type: of a long or double two
abbrev pub words_of : Desc → Held → List Held
words_of desc value = replicate (length (cell_words (desc_cell desc))) value

-- the word that is given anew at a place, where these are given to the stack. An iinc gives a local variable a number.
abbrev pub given_word : Insn → ℕ → List Held → Place → Held
given_word insn depth given (AtLocal local) = held.Word
given_word insn depth given (AtStack place) = slice_index_or given (place - words_below insn depth) held.Word

-- the words that an instruction leaves, where it gives these to the stack
abbrev pub leave : Insn → List Held → Words Held → Words Held
leave insn given words = words_after insn (given_word insn (length words.stack) given) words
