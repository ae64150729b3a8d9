-- Where an instruction leaves the words that it finds (JVMS 2.6.1, 2.6.2, 6.5), whatever the words are: values,
-- verification types, kinds, or labels. All that follows words goes by this.
use Rattle.std.specs.Prelude.{◌≡◌, ◌<◌, ℕ, ◌+◌, ◌-◌, Bool, ◌&&◌, nat_le, nat_lt, if◌then◌else◌, List, length, map, Option, None, Some, slice_get, unwrap_or}
use Rattle.std.specs.List.{list_any, range_with_len}
use Rattle.std.specs.Option.{option_map, option_map_or}
use Rattle.jv_table.specs.declared.code_tables.Cell.{Cell}
use Rattle.jv_types.specs.declared.instruction.Insn.{Insn}
use Rattle.jv_insn.specs.Effects.{Shuffle, cell_width, width_of, shuffle_of, cells_taken, cells_given, is_load, is_store, local_of, locals_written}

-- a word of a frame: a local variable, or a word of the operand stack. Both are counted from 0, the stack from
-- its bottom.
pub data Place : Type 0 where
  AtLocal : ℕ → Place
  AtStack : ℕ → Place

-- the words of a frame. A value of category 2 is two of them.
pub record Words (W : Type 0) : Type 0 where
  pub locals : List W
  pub stack : List W

-- the word at a place, where there is one
abbrev pub word_at : {W : Type 0} → Words W → Place → Option W
word_at words (AtLocal local) = slice_get words.locals local
word_at words (AtStack place) = slice_get words.stack place

-- ---- how many words

-- how many words an instruction takes from the top of the stack: those that it moves, or those of its cells
abbrev pub words_taken : Insn → ℕ
words_taken insn = option_map_or (λ (shuffle : Shuffle). shuffle.count) (shuffle_of insn.op) (width_of (cells_taken insn.op insn.arg))

-- how many words stand in their place afterwards
abbrev pub words_given : Insn → ℕ
words_given insn = option_map_or (λ (shuffle : Shuffle). length shuffle.order) (shuffle_of insn.op) (width_of (cells_given insn.op insn.arg))

-- how many words of a stack of this depth an instruction doesn't touch: those below what it takes
abbrev pub words_below : Insn → ℕ → ℕ
words_below insn depth = depth - words_taken insn

-- the depth of the stack afterwards
abbrev pub depth_after : Insn → ℕ → ℕ
depth_after insn depth = words_below insn depth + words_given insn

-- an instruction writes a local variable: a store, of one or two, or iinc
abbrev pub is_written : Insn → ℕ → Bool
is_written insn local =
    list_any (λ (write : ℕ × Cell). nat_le write.0 local && nat_lt local (write.0 + cell_width write.1)) (locals_written insn.op insn.arg)

-- ---- where words are left

-- Of a local variable that is written: a store leaves the words there that it takes from the stack, and iinc
-- gives its int anew. Each other local variable keeps its word, also the half of a value of category 2 whose
-- other half a store overwrites: it is the verification types that say that such a half is no value.
abbrev pub source_of_local : Insn → ℕ → ℕ → Option Place
source_of_local insn below local =
    if is_written insn local then (if is_store insn.op then Some (AtStack (below + (local - local_of insn.op insn.arg))) else None) else Some (AtLocal local)

-- Of a word of the stack that stands so far above those that the instruction doesn't touch, by how it moves
-- words: a load leaves the local variables there that it reads, and one of the nine instructions that move
-- words those that it takes. All others give theirs anew, checkcast too.
abbrev pub source_of_top : Option Shuffle → Insn → ℕ → ℕ → Option Place
source_of_top None insn below above = if is_load insn.op && nat_lt above (words_given insn) then Some (AtLocal (local_of insn.op insn.arg + above)) else None
source_of_top (Some shuffle) insn below above = option_map (λ (from : ℕ). AtStack (below + from)) (slice_get shuffle.order above)

-- the place, before an instruction, of the word that it leaves at a place, where the stack before it has this
-- depth. Where there is none, the word is given anew, or there is no such word.
abbrev pub source_of : Insn → ℕ → Place → Option Place
source_of insn depth (AtLocal local) = source_of_local insn (words_below insn depth) local
source_of insn depth (AtStack place) =
    if nat_lt place (words_below insn depth) then Some (AtStack place) else source_of_top (shuffle_of insn.op) insn (words_below insn depth) (place - words_below insn depth)

-- an instruction leaves the word at the one place at the other: before the next instruction and before each
-- target. A handler finds the local variables as they were before the instruction, and none of its stack.
abbrev pub Leaves : Insn → ℕ → Place → Place → Type 0
Leaves insn depth from to = source_of insn depth to ≡ Some from

-- ---- the words afterwards

-- there is a word at a place after an instruction
abbrev pub StandsAfter : {W : Type 0} → Insn → Words W → Place → Type 0
StandsAfter insn words (AtLocal local) = local < length words.locals
StandsAfter insn words (AtStack place) = place < depth_after insn (length words.stack)

-- the word at a place after an instruction: what is left there, or what is given anew
abbrev pub word_after : {W : Type 0} → Insn → (Place → W) → Words W → Place → W
word_after {W} insn given words to =
    option_map_or (λ (from : Place). unwrap_or (word_at words from) (given to)) (source_of insn (length words.stack) to) (given to)

-- the words after an instruction, with those that are given anew by their places
abbrev pub words_after : {W : Type 0} → Insn → (Place → W) → Words W → Words W
words_after {W} insn given words = record {
  locals = map (λ (local : ℕ). word_after insn given words (AtLocal local)) (range_with_len 0 (length words.locals));
  stack = map (λ (place : ℕ). word_after insn given words (AtStack place)) (range_with_len 0 (depth_after insn (length words.stack)));
}
