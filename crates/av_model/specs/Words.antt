-- Instructions that only move words, or give words of numbers or null: constants, loads and stores, arithmetic,
-- branches (JVMS 6.5).
use Rattle.std.specs.Prelude.{◌≡◌, ℕ, Bool, true, false, ◌&&◌, IsTrue, nat_le, not, List, [], ◌∷◌}
use Rattle.std.specs.List.{flat_map, list_any}
use Rattle.jv_table.specs.declared.code_tables.Cell.{Cell}
use Rattle.jv_table.specs.declared.code_tables.Cell.TheVariants as cells
use Rattle.jv_table.specs.declared.ops.TheConstants.{NOP, ALOAD_3, ISTORE, ASTORE_3, POP, GOTO, TABLESWITCH, LOOKUPSWITCH, IFNULL, GOTO_W}
use Rattle.jv_types.specs.declared.instruction.Arg.{Arg}
use Rattle.jv_types.specs.declared.instruction.Arg.TheVariants.{Constant}
use Rattle.jv_types.specs.declared.instruction.Const.{Const}
use Rattle.jv_types.specs.declared.instruction.Const.TheVariants as consts
use Rattle.jv_types.specs.declared.instruction.Insn.{Insn}
use Rattle.jv_insn.specs.Effects.{effect_of}
use Rattle.av_states.specs.declared.held.Held.{Held}
use Rattle.av_states.specs.declared.held.Held.TheVariants.{Null, Word}

-- the opcodes, from the one to the other: constants and loads, stores, what moves words and computes and branches,
-- switches, and the branches by null
abbrev pub word_opcodes : List (ℕ × ℕ)
word_opcodes = (NOP, ALOAD_3) ∷ (ISTORE, ASTORE_3) ∷ (POP, GOTO) ∷ (TABLESWITCH, LOOKUPSWITCH) ∷ (IFNULL, GOTO_W) ∷ []

-- the constant is an object
abbrev pub is_object : Const → Bool
is_object (consts.Int value) = false
is_object (consts.Float bits) = false
is_object (consts.Long value) = false
is_object (consts.Double bits) = false
is_object _ = true

abbrev pub loads_object : Arg → Bool
loads_object (Constant constant) = is_object constant
loads_object _ = false

abbrev pub is_word_insn : Insn → Bool
is_word_insn insn = list_any (λ (range : ℕ × ℕ). nat_le range.0 insn.op && nat_le insn.op range.1) word_opcodes && not (loads_object insn.arg)

-- the words of a number, or null
abbrev pub plain_words : Cell → List Held
plain_words cells.Int = Word ∷ []
plain_words cells.Float = Word ∷ []
plain_words cells.Long = Word ∷ Word ∷ []
plain_words cells.Double = Word ∷ Word ∷ []
plain_words cells.Ref = Null ∷ []
plain_words cells.Null = Null ∷ []

-- such an instruction gives these words to the stack; those that it moves, it doesn't give anew
pub record MovesWords (insn : Insn) (given : List Held) : Type 0 where
  pub of_words : IsTrue (is_word_insn insn)
  pub gives : given ≡ flat_map plain_words (effect_of insn).gives
