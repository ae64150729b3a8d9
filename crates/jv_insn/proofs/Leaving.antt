-- Where words are left, and the words and kinds after an instruction.
use Rattle.std.proofs.Common.{◌≡◌, ℕ, zero, suc, ◌+◌, ◌-◌, ◌<◌, ◌≤◌, Bool, true, false, cond, eqb, ltb, not, ◌||◌, ◌&&◌, List, [], ◌∷◌, map, length, Option, Some, None, refl, sym, ap, subst, ◌∙◌, arith}
use Rattle.std.specs.Prelude.{is_none, nat_le, slice_get, unwrap_or}
use Rattle.std.specs.List.{list_all, list_any, range_with_len}
use Rattle.std.specs.Option.{option_map, option_map_or}
use Rattle.std.proofs.lemmas.Bool.{and_parts, lt-ltb}
use Rattle.std.proofs.lemmas.Bool.Decides.{nat_tests}
use Rattle.jv_lists.proofs.Tests.{where_true, none_is, not_true}
use Rattle.jv_table.specs.CodeRows.{OpForm, opcode_rows}
use Rattle.jv_table.specs.declared.code_tables.Cell.{Cell}
use Rattle.jv_table.specs.declared.code_tables.Cell.TheVariants.{Int}
use Rattle.jv_table.specs.declared.ops.TheConstants.{IINC}
use Rattle.jv_types.specs.declared.instruction.Arg.{Arg}
use Rattle.jv_types.specs.declared.instruction.Insn.{Insn}
use Rattle.jv_insn.specs.Effects.{Shuffle, effect_of, op_row, shuffle_of, cell_width, width_of, cells_taken, cells_given, decides_cells, is_load, is_store, local_of, locals_written}
use Rattle.jv_insn.specs.Forms.{HasOperands, HasRowOperands, HasOwnOperands}
use Rattle.jv_insn.specs.Leaving.{Place, AtLocal, AtStack, Words, word_at, words_taken, words_given, words_below, depth_after, is_written, source_of_top, source_of, Leaves, StandsAfter, word_after, words_after}
use Rattle.jv_insn.proofs.Tables.{row_passes, row_cells_taken}

-- ---- a word above those that aren't touched

past_below : (below place n : ℕ) → place ≡ below + n → ltb place below ≡ false
past_below below place n e = grind (arith, nat_tests)

above_below : (below place n : ℕ) → place ≡ below + n → place - below ≡ n
above_below below place n e = omega (arith, e)

-- the source of such a word
top_is : (insn : Insn) (depth place n : ℕ) → place ≡ words_below insn depth + n → source_of insn depth (AtStack place) ≡ source_of_top (shuffle_of insn.op) insn (words_below insn depth) n
top_is insn depth place n e =
    let below = words_below insn depth in
    ap (λ (b : Bool). cond b (Some (AtStack place)) (source_of_top (shuffle_of insn.op) insn below (place - below))) (past_below below place n e)
    ∙ ap (source_of_top (shuffle_of insn.op) insn below) (above_below below place n e)

pub below_left : (insn : Insn) (depth place : ℕ) → place < words_below insn depth → Leaves insn depth (AtStack place) (AtStack place)
below_left insn depth place lt =
    let below = words_below insn depth in
    ap (λ (b : Bool). cond b (Some (AtStack place)) (source_of_top (shuffle_of insn.op) insn below (place - below))) (lt-ltb place below lt)

pub stays_left : (insn : Insn) (depth local : ℕ) → is_written insn local ≡ false → Leaves insn depth (AtLocal local) (AtLocal local)
stays_left insn depth local e =
    ap (λ (b : Bool). cond b (cond (is_store insn.op) (Some (AtStack (words_below insn depth + (local - local_of insn.op insn.arg)))) None) (Some (AtLocal local))) e

pub moved_left : (insn : Insn) (depth from to : ℕ) (shuffle : Shuffle) → shuffle_of insn.op ≡ Some shuffle → slice_get shuffle.order to ≡ Some from
    → Leaves insn depth (AtStack (words_below insn depth + from)) (AtStack (words_below insn depth + to))
moved_left insn depth from to shuffle moves at =
    let below = words_below insn depth in
    top_is insn depth (below + to) to refl
    ∙ ap (λ (s : Option Shuffle). source_of_top s insn below to) moves
    ∙ ap (λ (o : Option ℕ). option_map (λ (from : ℕ). AtStack (below + from)) o) at

pub given_anew : (insn : Insn) (depth place : ℕ) → is_load insn.op ≡ false → shuffle_of insn.op ≡ None → words_below insn depth ≤ place → source_of insn depth (AtStack place) ≡ None
given_anew insn depth place load moves le =
    let below = words_below insn depth in
    let n = place - below in
    let there : place ≡ below + n = omega (arith, le) in
    top_is insn depth place n there
    ∙ ap (λ (s : Option Shuffle). source_of_top s insn below n) moves
    ∙ ap (λ (b : Bool). cond (b && ltb n (words_given insn)) (Some (AtLocal (local_of insn.op insn.arg + n))) None) load

-- ---- loads and stores

abbrev is_alone : List Cell → Bool
is_alone [] = false
is_alone (cell ∷ []) = true
is_alone (cell ∷ next ∷ cells) = false

abbrev has_none : List Cell → Bool
has_none [] = true
has_none (cell ∷ cells) = false

abbrev is_load_row : ℕ × OpForm → Bool
is_load_row row = not (is_load row.0) || (is_none (shuffle_of row.0) && (has_none row.1.takes && not (decides_cells row.1.form)))

abbrev is_store_row : ℕ × OpForm → Bool
is_store_row row = not (is_store row.0) || (is_none (shuffle_of row.0) && (is_alone row.1.takes && not (decides_cells row.1.form)))

each_load : list_all is_load_row opcode_rows ≡ true
unfolding opcode_rows
each_load = refl

each_store : list_all is_store_row opcode_rows ≡ true
unfolding opcode_rows
each_store = refl

empty_is : (cells : List Cell) → has_none cells ≡ true → cells ≡ []
empty_is [] e = refl
empty_is (cell ∷ cells) e = absurd cc

alone_is : (cells : List Cell) → is_alone cells ≡ true → (cell : Cell) × (cells ≡ cell ∷ [])
alone_is [] e = absurd cc
alone_is (cell ∷ []) e = (cell, refl)
alone_is (cell ∷ next ∷ cells) e = absurd cc

-- the row of an instruction whose operands are of its layout
row_is : (row : Option OpForm) (arg : Arg) → HasRowOperands row arg → (r : OpForm) × (row ≡ Some r) × HasOperands r.form arg
row_is None arg h = absurd h
row_is (Some row) arg h = (row, refl, h)

-- an instruction that moves no words takes those of its cells
plain_taken : (insn : Insn) (cells : List Cell) → shuffle_of insn.op ≡ None → cells_taken insn.op insn.arg ≡ cells → words_taken insn ≡ width_of cells
plain_taken insn cells moves is =
    ap (λ (s : Option Shuffle). option_map_or (λ (shuffle : Shuffle). shuffle.count) s (width_of (cells_taken insn.op insn.arg))) moves ∙ ap width_of is

plain_given : (insn : Insn) → shuffle_of insn.op ≡ None → words_given insn ≡ width_of (cells_given insn.op insn.arg)
plain_given insn moves =
    ap (λ (s : Option Shuffle). option_map_or (λ (shuffle : Shuffle). length shuffle.order) s (width_of (cells_given insn.op insn.arg))) moves

nothing_below : (insn : Insn) (depth : ℕ) → words_taken insn ≡ 0 → words_below insn depth ≡ depth
nothing_below insn depth e = less (words_taken insn) e
  where
    less : (taken : ℕ) → taken ≡ 0 → depth - taken ≡ depth
    less taken e = omega (arith, e)

pub loaded_left : (insn : Insn) (depth n : ℕ) → HasOwnOperands insn → is_load insn.op ≡ true → n < width_of (effect_of insn).gives → Leaves insn depth (AtLocal (local_of insn.op insn.arg + n)) (AtStack (depth + n))
loaded_left insn depth n own load lt =
    let r = row_is (op_row insn.op) insn.arg own in
    let passes = where_true (is_load insn.op) (is_none (shuffle_of insn.op) && (has_none r.0.takes && not (decides_cells r.0.form))) load (row_passes is_load_row opcode_rows insn.op r.0 each_load r.1) in
    let a = and_parts (is_none (shuffle_of insn.op)) (has_none r.0.takes && not (decides_cells r.0.form)) passes in
    let b = and_parts (has_none r.0.takes) (not (decides_cells r.0.form)) a.1 in
    let moves = none_is (shuffle_of insn.op) a.0 in
    let cells : cells_taken insn.op insn.arg ≡ [] = row_cells_taken insn.op insn.arg r.0 r.1 r.2 (not_true (decides_cells r.0.form) b.1) ∙ empty_is r.0.takes b.0 in
    let below : words_below insn depth ≡ depth = nothing_below insn depth (plain_taken insn [] moves cells) in
    let wide : ltb n (words_given insn) ≡ true = lt-ltb n (words_given insn) (subst (λ (w : ℕ). n < w) (sym (plain_given insn moves)) lt) in
    let to : depth + n ≡ words_below insn depth + n = ap (λ (d : ℕ). d + n) (sym below) in
    top_is insn depth (depth + n) n to
    ∙ ap (λ (s : Option Shuffle). source_of_top s insn (words_below insn depth) n) moves
    ∙ ap (λ (x : Bool). cond (x && ltb n (words_given insn)) (Some (AtLocal (local_of insn.op insn.arg + n))) None) load
    ∙ ap (λ (x : Bool). cond x (Some (AtLocal (local_of insn.op insn.arg + n))) None) wide

-- the one write of a store covers its words
covers : (local n width : ℕ) → n < width → ((nat_le local (local + n) && ltb (local + n) (local + width)) || false) ≡ true
covers local n width lt = grind (arith, nat_tests)

back : (local n : ℕ) → (local + n) - local ≡ n
back local n = omega arith

from_zero : (n : ℕ) → 0 + n ≡ n
from_zero n = omega arith

one_width : (cell : Cell) → width_of (cell ∷ []) ≡ cell_width cell
one_width cell = from_zero (cell_width cell)

pub stored_left : (insn : Insn) (depth n : ℕ) → HasOwnOperands insn → is_store insn.op ≡ true → n < width_of (effect_of insn).takes
    → Leaves insn depth (AtStack ((depth - width_of (effect_of insn).takes) + n)) (AtLocal (local_of insn.op insn.arg + n))
stored_left insn depth n own store lt =
    let r = row_is (op_row insn.op) insn.arg own in
    let passes = where_true (is_store insn.op) (is_none (shuffle_of insn.op) && (is_alone r.0.takes && not (decides_cells r.0.form))) store (row_passes is_store_row opcode_rows insn.op r.0 each_store r.1) in
    let a = and_parts (is_none (shuffle_of insn.op)) (is_alone r.0.takes && not (decides_cells r.0.form)) passes in
    let b = and_parts (is_alone r.0.takes) (not (decides_cells r.0.form)) a.1 in
    let moves = none_is (shuffle_of insn.op) a.0 in
    let one = alone_is r.0.takes b.0 in
    let local = local_of insn.op insn.arg in
    let cells : cells_taken insn.op insn.arg ≡ one.0 ∷ [] = row_cells_taken insn.op insn.arg r.0 r.1 r.2 (not_true (decides_cells r.0.form) b.1) ∙ one.1 in
    let write : ℕ × Cell = (local, one.0) in
    let writes : locals_written insn.op insn.arg ≡ write ∷ [] =
    ap (λ (x : Bool). cond x (map (λ (cell : Cell). (local, cell)) (cells_taken insn.op insn.arg)) (cond (eqb insn.op IINC) ((local, Int) ∷ []) [])) store
    ∙ ap (λ (cs : List Cell). map (λ (cell : Cell). (local, cell)) cs) cells in
    let narrow : n < cell_width one.0 = subst (λ (w : ℕ). n < w) (ap width_of cells ∙ one_width one.0) lt in
    let written : is_written insn (local + n) ≡ true =
    ap (λ (ws : List (ℕ × Cell)). list_any (λ (write : ℕ × Cell). nat_le write.0 (local + n) && ltb (local + n) (write.0 + cell_width write.1)) ws) writes ∙ covers local n (cell_width one.0) narrow in
    let taken : words_taken insn ≡ width_of (cells_taken insn.op insn.arg) = plain_taken insn (cells_taken insn.op insn.arg) moves refl in
    ap (λ (x : Bool). cond x (cond (is_store insn.op) (Some (AtStack (words_below insn depth + ((local + n) - local)))) None) (Some (AtLocal (local + n)))) written
    ∙ ap (λ (x : Bool). cond x (Some (AtStack (words_below insn depth + ((local + n) - local)))) None) store
    ∙ ap (λ (k : ℕ). Some (AtStack (words_below insn depth + k))) (back local n)
    ∙ ap (λ (t : ℕ). Some (AtStack ((depth - t) + n))) taken

-- ---- the words afterwards

ranged : {W : Type 0} (f : ℕ → W) (first n i : ℕ) → i < n → slice_get (map f (range_with_len first n)) i ≡ Some (f (first + i))
ranged f first zero i lt = absurd (omega arith)
ranged f first (suc n) zero lt = let e : first ≡ first + 0 = omega arith in ap (λ (k : ℕ). Some (f k)) e
ranged f first (suc n) (suc i) lt =
    let e : (first + 1) + i ≡ first + suc i = omega arith in
    ranged f (first + 1) n i (omega arith) ∙ ap (λ (k : ℕ). Some (f k)) e

-- the word that stands at a place afterwards
pub stands_after : {W : Type 0} (insn : Insn) (given : Place → W) (words : Words W) (to : Place) → StandsAfter insn words to → word_at (words_after insn given words) to ≡ Some (word_after insn given words to)
stands_after {W} insn given words (AtLocal local) lt = ranged (λ (local : ℕ). word_after insn given words (AtLocal local)) 0 (length words.locals) local lt ∙ ap (λ (k : ℕ). Some (word_after insn given words (AtLocal k))) (from_zero local)
stands_after {W} insn given words (AtStack place) lt = ranged (λ (place : ℕ). word_after insn given words (AtStack place)) 0 (depth_after insn (length words.stack)) place lt ∙ ap (λ (k : ℕ). Some (word_after insn given words (AtStack k))) (from_zero place)

-- a word that is left is the same, and the others are those that are given
pub word_left : {W : Type 0} (insn : Insn) (given : Place → W) (words : Words W) (from to : Place) (word : W) → Leaves insn (length words.stack) from to → word_at words from ≡ Some word → word_after insn given words to ≡ word
word_left {W} insn given words from to word leaves at =
    ap (λ (o : Option Place). option_map_or (λ (from : Place). unwrap_or (word_at words from) (given to)) o (given to)) leaves
    ∙ ap (λ (o : Option W). unwrap_or o (given to)) at

pub word_given : {W : Type 0} (insn : Insn) (given : Place → W) (words : Words W) (to : Place) → source_of insn (length words.stack) to ≡ None → word_after insn given words to ≡ given to
word_given {W} insn given words to none =
    ap (λ (o : Option Place). option_map_or (λ (from : Place). unwrap_or (word_at words from) (given to)) o (given to)) none
