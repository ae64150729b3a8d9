-- What an instruction leaves has the kinds of words that its cells and its moves say.
use Rattle.std.proofs.Common.{◌≡◌, ℕ, zero, suc, ◌+◌, ◌-◌, ◌<◌, ◌≤◌, Bool, true, false, cond, eqb, ltb, not, List, [], ◌∷◌, ◌++◌, length, Option, Some, None, slice_get, refl, sym, ap, ◌∙◌, subst, ◌⊎◌, inr, arith}
use Rattle.std.specs.Prelude.{◌&&◌, ◌||◌, nat_le, map, All, slice_index_or}
use Rattle.std.specs.List.{flat_map, list_any, list_all}
use Rattle.std.specs.Option.{option_map_or}
use Rattle.std.proofs.lemmas.Bool.{and_parts, eqb-true, lt-ltb}
use Rattle.std.proofs.lemmas.Bool.Decides.{nat_tests}
use Rattle.std.proofs.lemmas.List.{length-append, append-nil}
use Rattle.std.proofs.lemmas.List.Sums.{sum_by-cons}
use Rattle.std.proofs.lemmas.List.FromFn.{length-map-range_with_len}
use Rattle.std.proofs.lemmas.Option.{slice_get_within}
use Rattle.jv_lists.proofs.Tests.{not_true, where_true}
use Rattle.jv_lists.proofs.Places.{slice_get-front}
use Rattle.jv_table.specs.CodeRows.{OpForm, opcode_rows}
use Rattle.jv_table.specs.declared.ops.TheConstants.{IINC}
use Rattle.jv_table.specs.declared.code_tables.Cell.{Cell}
use Rattle.jv_table.specs.declared.code_tables.Cell.TheVariants.{Int, Float, Long, Double, Ref, Null}
use Rattle.jv_types.specs.declared.instruction.Insn.{Insn}
use Rattle.jv_types.specs.declared.frames.Frame.{Frame}
use Rattle.jv_insn.specs.Effects.{Shuffle, effect_of, op_row, shuffle_of, cell_width, width_of, cells_taken, cells_given, decides_cells, is_load, is_store, local_of, locals_read, locals_written}
use Rattle.jv_insn.specs.Forms.{HasOwnOperands, HasRowOperands}
use Rattle.jv_insn.specs.Kinds.{WordKind, Word, Unknown, cell_words, kinds_after, kinds_of, kind_given, kinds_left, SaysOnly}
use Rattle.jv_insn.specs.KindSafe.{LocalHolds}
use Rattle.jv_insn.specs.Leaving.{Place, AtLocal, AtStack, Words, words_taken, words_given, words_below, depth_after, is_written, source_of, source_of_top, Leaves, word_after}
use Rattle.jv_insn.proofs.HeldCells.{held_kinds}
use Rattle.jv_insn.proofs.Leaving.{below_left, stays_left, given_anew, stands_after, word_left, word_given}
use Rattle.jv_insn.proofs.Tables.{row_passes, row_cells_given}
use Rattle.jv_typing_laws.proofs.KindsOfWords.{held_local}
use Rattle.jv_typing_laws.proofs.CellSteps.{IsCellStep}

-- ---- lists by their places

pub get_right : {X : Type 0} (xs ys : List X) (i n : ℕ) → i ≡ length xs + n → slice_get (xs ++ ys) i ≡ slice_get ys n
get_right [] ys i n e = let same : i ≡ n = omega (arith, e) in ap (slice_get ys) same
get_right (x ∷ xs) ys zero n e = absurd (omega (arith, e))
get_right (x ∷ xs) ys (suc i) n e = get_right xs ys i n (omega (arith, e))

index_found : {X : Type 0} (xs : List X) (n : ℕ) (d x : X) → slice_get xs n ≡ Some x → slice_index_or xs n d ≡ x
index_found [] n d x e = absurd cc
index_found (y ∷ xs) zero d x e = cc
index_found (y ∷ xs) (suc n) d x e = index_found xs n d x e

pub index_there : {X : Type 0} (xs : List X) (n : ℕ) (d : X) → n < length xs → slice_get xs n ≡ Some (slice_index_or xs n d)
index_there [] n d lt = absurd (omega arith)
index_there (y ∷ xs) zero d lt = refl
index_there (y ∷ xs) (suc n) d lt = index_there xs n d (omega arith)

-- ---- widths

one_long : (cell : Cell) → length (cell_words cell) ≡ cell_width cell
one_long Int = refl
one_long Float = refl
one_long Long = refl
one_long Double = refl
one_long Ref = refl
one_long Null = refl

pub width_long : (cells : List Cell) → length (flat_map cell_words cells) ≡ width_of cells
width_long [] = refl
width_long (cell ∷ cells) =
    let rest = width_long cells in
    let first = one_long cell in
    let whole : length (cell_words cell ++ flat_map cell_words cells) ≡ length (cell_words cell) + length (flat_map cell_words cells) = length-append (cell_words cell) (flat_map cell_words cells) in
    let sum : width_of (cell ∷ cells) ≡ cell_width cell + width_of cells = sum_by-cons cell_width cell cells in
    omega (arith, whole, first, rest, sum)

plain_taken : (insn : Insn) → shuffle_of insn.op ≡ None → words_taken insn ≡ width_of (cells_taken insn.op insn.arg)
plain_taken insn e = ap (λ (s : Option Shuffle). option_map_or (λ (shuffle : Shuffle). shuffle.count) s (width_of (cells_taken insn.op insn.arg))) e

plain_given : (insn : Insn) → shuffle_of insn.op ≡ None → words_given insn ≡ width_of (cells_given insn.op insn.arg)
plain_given insn e = ap (λ (s : Option Shuffle). option_map_or (λ (shuffle : Shuffle). length shuffle.order) s (width_of (cells_given insn.op insn.arg))) e

-- ---- the stack

-- a stack of kinds of which an instruction takes the upper ones and puts others there
pub record StackChange (insn : Insn) (words : Words WordKind) (below taken given : List WordKind) : Type 0 where
  pub whole : words.stack ≡ below ++ taken
  pub takes : words_taken insn ≡ length taken
  pub gives : words_given insn ≡ length given

pub below_is : (insn : Insn) (words : Words WordKind) (below taken given : List WordKind) → StackChange insn words below taken given → words_below insn (length words.stack) ≡ length below
below_is insn words below taken given c =
    let depth : length words.stack ≡ length below + length taken = ap length c.whole ∙ length-append below taken in
    omega (arith, depth, c.takes)

pub depth_is : (insn : Insn) (words : Words WordKind) (below taken given : List WordKind) → StackChange insn words below taken given → length (kinds_left insn words).stack ≡ length (below ++ given)
depth_is insn words below taken given c =
    let long : length (kinds_left insn words).stack ≡ depth_after insn (length words.stack) = length-map-range_with_len (λ (place : ℕ). word_after insn (kind_given insn (length words.stack)) words (AtStack place)) 0 (depth_after insn (length words.stack)) in
    let under = below_is insn words below taken given c in
    long ∙ ap (λ (n : ℕ). n + words_given insn) under ∙ ap (λ (n : ℕ). length below + n) c.gives ∙ sym (length-append below given)

-- the kinds that are put there are those that stand there afterwards
abbrev pub AreGiven : Insn → Words WordKind → List WordKind → Type 0
AreGiven insn words given =
    (n : ℕ) (kind : WordKind) → slice_get given n ≡ Some kind → word_after insn (kind_given insn (length words.stack)) words (AtStack (words_below insn (length words.stack) + n)) ≡ kind

pub stack_says : (insn : Insn) (words : Words WordKind) (below taken given : List WordKind) → StackChange insn words below taken given → AreGiven insn words given → SaysOnly (below ++ given) (kinds_left insn words).stack
stack_says insn words below taken given c are place kind e = by (ltb place (length below)) refl
  where
    depth : ℕ
    depth = length words.stack

    made : Place → WordKind
    made = kind_given insn (length words.stack)

    under : words_below insn (length words.stack) ≡ length below
    under = below_is insn words below taken given c

    after : depth_after insn (length words.stack) ≡ length below + length given
    after = ap (λ (n : ℕ). n + words_given insn) under ∙ ap (λ (n : ℕ). length below + n) c.gives

    low : place < length below → slice_get (kinds_left insn words).stack place ≡ Some kind
    low lt =
        let own : slice_get below place ≡ Some kind = sym (slice_get-front below given place lt) ∙ e in
        let at : slice_get words.stack place ≡ Some kind = ap (λ (l : List WordKind). slice_get l place) c.whole ∙ slice_get-front below taken place lt ∙ own in
        stands_after insn (kind_given insn (length words.stack)) words (AtStack place) (omega (arith, after, lt))
        ∙ ap Some (word_left insn (kind_given insn (length words.stack)) words (AtStack place) (AtStack place) kind (below_left insn (length words.stack) place (omega (arith, under, lt))) at)

    high : (n : ℕ) → place ≡ length below + n → slice_get (kinds_left insn words).stack place ≡ Some kind
    high n is =
        let own : slice_get given n ≡ Some kind = sym (get_right below given place n is) ∙ e in
        let lt : n < length given = slice_get_within given n kind own in
        let same : words_below insn (length words.stack) + n ≡ place = omega (arith, under, is) in
        stands_after insn (kind_given insn (length words.stack)) words (AtStack place) (omega (arith, after, lt, is))
        ∙ ap Some (ap (λ (p : ℕ). word_after insn (kind_given insn (length words.stack)) words (AtStack p)) (sym same) ∙ are n kind own)

    by : (b : Bool) → ltb place (length below) ≡ b → (kind ≡ Unknown) ⊎ (slice_get (kinds_left insn words).stack place ≡ Some kind)
    by true is = inr (low (grind (arith, nat_tests)))
    by false is =
        let le : length below ≤ place = grind (arith, nat_tests) in
        inr (high (place - length below) (omega (arith, le)))

-- the change of a step by cells
pub cell_change : (insn : Insn) (frame after : Frame) (step : IsCellStep insn frame after)
    → StackChange insn (kinds_of frame) (kinds_after false step.takes.below) (flat_map cell_words (effect_of insn).takes) (flat_map cell_words (effect_of insn).gives)
cell_change insn frame after step = record {
  whole = ap (kinds_after false) step.takes.whole ∙ held_kinds (effect_of insn).takes false step.takes.below step.takes.top step.takes.holds;
  takes = plain_taken insn step.alone ∙ sym (width_long (effect_of insn).takes);
  gives = plain_given insn step.alone ∙ sym (width_long (effect_of insn).gives);
}

-- where a load takes a word from
loaded_from : (insn : Insn) (depth n : ℕ) → shuffle_of insn.op ≡ None → is_load insn.op ≡ true → n < words_given insn → Leaves insn depth (AtLocal (local_of insn.op insn.arg + n)) (AtStack (words_below insn depth + n))
loaded_from insn depth n alone load lt =
    let under : ℕ = words_below insn depth in
    let place : ℕ = under + n in
    let above : ltb place under ≡ false = past under n in
    let back : place - under ≡ n = over under n in
    let given : ltb n (words_given insn) ≡ true = lt-ltb n (words_given insn) lt in
    ap (λ (b : Bool). cond b (Some (AtStack place)) (source_of_top (shuffle_of insn.op) insn under (place - under))) above
    ∙ ap (λ (s : Option Shuffle). source_of_top s insn under (place - under)) alone
    ∙ ap (λ (k : ℕ). source_of_top None insn under k) back
    ∙ ap (λ (b : Bool). cond (b && ltb n (words_given insn)) (Some (AtLocal (local_of insn.op insn.arg + n))) None) load
    ∙ ap (λ (b : Bool). cond b (Some (AtLocal (local_of insn.op insn.arg + n))) None) given
  where
    past : (under n : ℕ) → ltb (under + n) under ≡ false
    past under n = grind (arith, nat_tests)

    over : (under n : ℕ) → (under + n) - under ≡ n
    over under n = omega arith

-- a load gives one cell
abbrev is_single : List Cell → Bool
is_single [] = false
is_single (cell ∷ []) = true
is_single (cell ∷ next ∷ cells) = false

abbrev load_row : ℕ × OpForm → Bool
load_row row = not (is_load row.0) || (is_single row.1.gives && not (decides_cells row.1.form))

all_load_rows : list_all load_row opcode_rows ≡ true
unfolding opcode_rows
all_load_rows = refl

single_is : (cells : List Cell) → is_single cells ≡ true → (cell : Cell) × (cells ≡ cell ∷ [])
single_is [] e = absurd cc
single_is (cell ∷ []) e = (cell, refl)
single_is (cell ∷ next ∷ cells) e = absurd cc

load_gives : (insn : Insn) (o : Option OpForm) → op_row insn.op ≡ o → HasRowOperands o insn.arg → is_load insn.op ≡ true → (cell : Cell) × (cells_given insn.op insn.arg ≡ cell ∷ [])
load_gives insn None e h load = absurd h
load_gives insn (Some row) e h load =
    let passes = where_true (is_load insn.op) (is_single row.gives && not (decides_cells row.form)) load (row_passes load_row opcode_rows insn.op row all_load_rows e) in
    let parts = and_parts (is_single row.gives) (not (decides_cells row.form)) passes in
    let one = single_is row.gives parts.0 in
    (one.0, row_cells_given insn.op insn.arg row e h (not_true (decides_cells row.form) parts.1) ∙ one.1)

-- the local variable that is read holds the cell
read_is : (insn : Insn) (frame : Frame) (cell : Cell) → All (LocalHolds frame) (effect_of insn).reads → locals_read insn.op insn.arg ≡ (local_of insn.op insn.arg, cell) ∷ [] → LocalHolds frame (local_of insn.op insn.arg, cell)
read_is insn frame cell reads is = (subst (λ (rs : List (ℕ × Cell)). All (LocalHolds frame) rs) is reads) 0 (local_of insn.op insn.arg, cell) (omega arith)

load_reads : (insn : Insn) (cell : Cell) → is_load insn.op ≡ true → cells_given insn.op insn.arg ≡ cell ∷ [] → locals_read insn.op insn.arg ≡ (local_of insn.op insn.arg, cell) ∷ []
load_reads insn cell load gives =
    ap (λ (b : Bool). cond b (map (λ (cell : Cell). (local_of insn.op insn.arg, cell)) (cells_given insn.op insn.arg)) (cond (eqb insn.op IINC) ((local_of insn.op insn.arg, Int) ∷ []) [])) load
    ∙ ap (λ (cs : List Cell). map (λ (cell : Cell). (local_of insn.op insn.arg, cell)) cs) gives

loaded_given : (insn : Insn) (frame after : Frame) → HasOwnOperands insn → IsCellStep insn frame after → is_load insn.op ≡ true → AreGiven insn (kinds_of frame) (flat_map cell_words (effect_of insn).gives)
loaded_given insn frame after own step load n kind e =
    let gives = load_gives insn (op_row insn.op) refl own load in
    let held : LocalHolds frame (local_of insn.op insn.arg, gives.0) = read_is insn frame gives.0 step.reads (load_reads insn gives.0 load gives.1) in
    let long : words_given insn ≡ length (flat_map cell_words (effect_of insn).gives) = plain_given insn step.alone ∙ sym (width_long (effect_of insn).gives) in
    let within : n < length (flat_map cell_words (effect_of insn).gives) = slice_get_within (flat_map cell_words (effect_of insn).gives) n kind e in
    let lt : n < words_given insn = subst (λ (k : ℕ). n < k) (sym long) within in
    let words : flat_map cell_words (effect_of insn).gives ≡ cell_words gives.0 = ap (flat_map cell_words) gives.1 ∙ append-nil (cell_words gives.0) in
    let own_kind : slice_get (cell_words gives.0) n ≡ Some kind = ap (λ (ks : List WordKind). slice_get ks n) (sym words) ∙ e in
    let local = local_of insn.op insn.arg in
    let at : slice_get (kinds_after false frame.locals) (local + n) ≡ Some kind = held_local false frame.locals gives.0 local n (local + n) kind refl held own_kind in
    let depth = length (kinds_of frame).stack in
    word_left insn (kind_given insn depth) (kinds_of frame) (AtLocal (local + n)) (AtStack (words_below insn depth + n)) kind (loaded_from insn depth n step.alone load lt) at

-- words that are given anew
anew_given : (insn : Insn) (words : Words WordKind) → shuffle_of insn.op ≡ None → is_load insn.op ≡ false → AreGiven insn words (flat_map cell_words (effect_of insn).gives)
anew_given insn words alone load n kind e =
    let depth : ℕ = length words.stack in
    let place : ℕ = words_below insn depth + n in
    let none : source_of insn depth (AtStack place) ≡ None = given_anew insn depth place load alone (at_least (words_below insn depth) n) in
    let back : place - words_below insn depth ≡ n = over (words_below insn depth) n in
    word_given insn (kind_given insn depth) words (AtStack place) none
    ∙ ap (λ (k : ℕ). slice_index_or (flat_map cell_words (cells_given insn.op insn.arg)) k Unknown) back
    ∙ index_found (flat_map cell_words (cells_given insn.op insn.arg)) n Unknown kind e
  where
    at_least : (under n : ℕ) → under ≤ under + n
    at_least under n = omega arith

    over : (under n : ℕ) → (under + n) - under ≡ n
    over under n = omega arith

cells_given_so : (insn : Insn) (frame after : Frame) → HasOwnOperands insn → IsCellStep insn frame after → (load : Bool) → is_load insn.op ≡ load → AreGiven insn (kinds_of frame) (flat_map cell_words (effect_of insn).gives)
cells_given_so insn frame after own step true load = loaded_given insn frame after own step load
cells_given_so insn frame after own step false load = anew_given insn (kinds_of frame) step.alone load

pub record StackSays (said : List WordKind) (words : Words WordKind) : Type 0 where
  pub stack : SaysOnly said words.stack
  pub depth : length said ≡ length words.stack

pub cell_stack : (insn : Insn) (frame after : Frame) → HasOwnOperands insn → IsCellStep insn frame after → StackSays (kinds_after false after.stack) (kinds_left insn (kinds_of frame))
cell_stack insn frame after own step =
    let below : List WordKind = kinds_after false step.takes.below in
    let taken : List WordKind = flat_map cell_words (effect_of insn).takes in
    let given : List WordKind = flat_map cell_words (effect_of insn).gives in
    let change = cell_change insn frame after step in
    let says = stack_says insn (kinds_of frame) below taken given change (cells_given_so insn frame after own step (is_load insn.op) refl) in
    let deep = depth_is insn (kinds_of frame) below taken given change in
    let whole : kinds_after false after.stack ≡ below ++ given = ap (kinds_after false) step.stack ∙ held_kinds (effect_of insn).gives false step.takes.below step.given step.gives in
    subst (λ (ks : List WordKind). StackSays ks (kinds_left insn (kinds_of frame))) (sym whole) (record { stack = says; depth = sym deep })

-- ---- local variables that stay

pub stays : (insn : Insn) (words : Words WordKind) (local : ℕ) (kind : WordKind) → is_written insn local ≡ false → slice_get words.locals local ≡ Some kind → slice_get (kinds_left insn words).locals local ≡ Some kind
stays insn words local kind written at =
    let depth : ℕ = length words.stack in
    stands_after insn (kind_given insn depth) words (AtLocal local) (slice_get_within words.locals local kind at)
    ∙ ap Some (word_left insn (kind_given insn depth) words (AtLocal local) (AtLocal local) kind (stays_left insn depth local written) at)

pub all_stay : (insn : Insn) (words : Words WordKind) → ((local : ℕ) → is_written insn local ≡ false) → SaysOnly words.locals (kinds_left insn words).locals
all_stay insn words none local kind at = inr (stays insn words local kind (none local) at)

pub writes_are : (insn : Insn) (stores inc : Bool) → is_store insn.op ≡ stores → eqb insn.op IINC ≡ inc
    → locals_written insn.op insn.arg ≡ cond stores (map (λ (cell : Cell). (local_of insn.op insn.arg, cell)) (cells_taken insn.op insn.arg)) (cond inc ((local_of insn.op insn.arg, Int) ∷ []) [])
writes_are insn stores inc s i =
    ap (λ (b : Bool). cond b (map (λ (cell : Cell). (local_of insn.op insn.arg, cell)) (cells_taken insn.op insn.arg)) (cond (eqb insn.op IINC) ((local_of insn.op insn.arg, Int) ∷ []) [])) s
    ∙ ap (λ (b : Bool). cond stores (map (λ (cell : Cell). (local_of insn.op insn.arg, cell)) (cells_taken insn.op insn.arg)) (cond b ((local_of insn.op insn.arg, Int) ∷ []) [])) i

abbrev pub covers : ℕ → ℕ × Cell → Bool
covers local write = nat_le write.0 local && ltb local (write.0 + cell_width write.1)

pub none_written : (insn : Insn) → is_store insn.op ≡ false → eqb insn.op IINC ≡ false → (local : ℕ) → is_written insn local ≡ false
none_written insn s i local = ap (list_any (covers local)) (writes_are insn false false s i)

-- ---- iinc

inc_written : (insn : Insn) (local : ℕ) → is_store insn.op ≡ false → eqb insn.op IINC ≡ true → is_written insn local ≡ true → local ≡ local_of insn.op insn.arg
inc_written insn local s i w =
    let test : (covers local (local_of insn.op insn.arg, Int) || false) ≡ true = sym (ap (list_any (covers local)) (writes_are insn false true s i)) ∙ w in
    at (local_of insn.op insn.arg) local test
  where
    at : (own local : ℕ) → ((nat_le own local && ltb local (own + 1)) || false) ≡ true → local ≡ own
    at own local t = grind (arith, nat_tests)

inc_reads : (insn : Insn) → eqb insn.op IINC ≡ true → locals_read insn.op insn.arg ≡ (local_of insn.op insn.arg, Int) ∷ []
inc_reads insn i =
    let load : is_load insn.op ≡ false = ap is_load (eqb-true insn.op IINC i) in
    ap (λ (b : Bool). cond b (map (λ (cell : Cell). (local_of insn.op insn.arg, cell)) (cells_given insn.op insn.arg)) (cond (eqb insn.op IINC) ((local_of insn.op insn.arg, Int) ∷ []) [])) load
    ∙ ap (λ (b : Bool). cond b ((local_of insn.op insn.arg, Int) ∷ []) []) i

pub inc_says : (insn : Insn) (frame : Frame) → is_store insn.op ≡ false → eqb insn.op IINC ≡ true → All (LocalHolds frame) (effect_of insn).reads → SaysOnly (kinds_after false frame.locals) (kinds_left insn (kinds_of frame)).locals
inc_says insn frame s i reads local kind at = by (is_written insn local) refl
  where
    by : (b : Bool) → is_written insn local ≡ b → (kind ≡ Unknown) ⊎ (slice_get (kinds_left insn (kinds_of frame)).locals local ≡ Some kind)
    by false w = inr (stays insn (kinds_of frame) local kind w at)
    by true w =
        let same : local ≡ local_of insn.op insn.arg = inc_written insn local s i w in
        let held = read_is insn frame Int reads (inc_reads insn i) in
        let is : slice_get (kinds_after false frame.locals) local ≡ Some Word = held_local false frame.locals Int (local_of insn.op insn.arg) 0 local Word (omega (arith, same)) held refl in
        let some : Some Word ≡ Some kind = sym is ∙ at in
        let word : Word ≡ kind = cc in
        let depth : ℕ = length (kinds_of frame).stack in
        let none : source_of insn depth (AtLocal local) ≡ None =
        ap (λ (b : Bool). cond b (cond (is_store insn.op) (Some (AtStack (words_below insn depth + (local - local_of insn.op insn.arg)))) None) (Some (AtLocal local))) w
        ∙ ap (λ (b : Bool). cond b (Some (AtStack (words_below insn depth + (local - local_of insn.op insn.arg)))) None) s in
        inr
        (stands_after insn (kind_given insn depth) (kinds_of frame) (AtLocal local) (slice_get_within (kinds_after false frame.locals) local kind at)
        ∙ ap Some (word_given insn (kind_given insn depth) (kinds_of frame) (AtLocal local) none ∙ word))
