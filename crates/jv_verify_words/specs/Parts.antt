-- The parts of a step on words: the words of numbers, and the cells of an instruction.
use Rattle.std.specs.Prelude.{◌≡◌, ℕ, IsTrue, List, [], ◌∷◌, Some}
use Rattle.std.specs.List.{flat_map}
use Rattle.jv_table.specs.CodeRows.{op_form}
use Rattle.jv_table.specs.declared.code_tables.OpRow.{OpRow}
use Rattle.jv_table.specs.declared.code_tables.Kind.TheVariants.{Word}
use Rattle.jv_table.specs.declared.code_tables.Cell.{Cell}
use Rattle.jv_table.specs.declared.code_tables.Cell.TheVariants.{Int, Float, Long, Double, Ref, Null}
use Rattle.jv_types.specs.declared.instruction.Insn.{Insn}
use Rattle.jv_types.specs.declared.frames.VType.{VType, Top}
use Rattle.jv_types.specs.declared.frames.VType as types
use Rattle.jv_insn.specs.Effects.{effect_of, op_row}
use Rattle.jv_typing.specs.Typing.{has_operands, IsWordInsn}
use Rattle.jv_typing.specs.Parts.{HoldsFrom}
use Rattle.jv_verify_words.specs.declared.insns.WordCells.{WordCells}

-- what LocalHolds says, of the local variables alone
abbrev pub ReadHolds : List VType → ℕ × Cell → Type 0
ReadHolds locals read = HoldsFrom locals read.0 read.1

-- the words of a number's cell; the cell of a reference doesn't tell them
abbrev pub number_words : Cell → List VType
number_words Int = types.Integer ∷ []
number_words Float = types.Float ∷ []
number_words Long = types.Long ∷ Top ∷ []
number_words Double = types.Double ∷ Top ∷ []
number_words Ref = []
number_words Null = []

abbrev pub numbers_words : List Cell → List VType
numbers_words cells = flat_map number_words cells

-- the row of an instruction that works on words
pub record IsWordRow (insn : Insn) (row : OpRow) : Type 0 where
  pub stands : op_row insn.op ≡ Some (op_form row)
  pub half : row.kind ≡ Word
  pub operands : IsTrue (has_operands row.form insn.arg)

-- the cells that an instruction that works on words takes and gives
pub record AreCellsOf (insn : Insn) (cells : WordCells) : Type 0 where
  pub is_word : IsWordInsn insn
  pub takes : cells.takes.now ≡ (effect_of insn).takes
  pub gives : cells.gives.now ≡ (effect_of insn).gives
