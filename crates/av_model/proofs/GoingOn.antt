-- An instruction that goes on in its method leaves words of the kinds that the method's frame there says.
use Rattle.std.proofs.Common.{◌≡◌, ℕ, zero, suc, ◌+◌, ◌-◌, ◌<◌, ◌≤◌, ◌⊎◌, Bool, true, false, cond, not, eqb, ltb, ◌&&◌, ◌||◌, List, [], ◌∷◌, ◌++◌, Option, None, Some, map, length, max, refl, sym, ap, subst, ◌∙◌, inl, inr, ⊎_elim, arith}
use Rattle.std.specs.Prelude.{slice_get, slice_index_or, unwrap_or}
use Rattle.std.specs.List.{All, flat_map, list_all}
use Rattle.std.specs.Option.{option_map, option_map_or}
use Rattle.std.proofs.lemmas.Bool.{and_parts, ltb-true}
use Rattle.std.proofs.lemmas.List.{length-append, length-map}
use Rattle.std.proofs.lemmas.List.FromFn.{length-map-range_with_len}
use Rattle.std.proofs.lemmas.Option.{none-some, slice_get-map, slice_get_within, same_Some}
use Rattle.jv_table.specs.CodeRows.{OpForm, opcode_rows}
use Rattle.jv_table.specs.declared.code_tables.Cell.{Cell}
use Rattle.jv_table.specs.declared.code_tables.Cell.TheVariants as cells
use Rattle.jv_table.specs.declared.ops.TheConstants.{IINC}
use Rattle.jv_types.specs.declared.frames.Frame.{Frame}
use Rattle.jv_types.specs.declared.instruction.Arg.{Arg}
use Rattle.jv_types.specs.declared.instruction.Insn.{Insn}
use Rattle.jv_types.specs.Bodies.{at_offset}
use Rattle.jv_insn.specs.Effects.{Shuffle, cells_given, decides_cells, effect_of, is_load, is_store, local_of, locals_read, op_row, shuffle_of, width_of}
use Rattle.jv_insn.specs.Forms.{HasOperands, HasOwnOperands, HasRowOperands}
use Rattle.jv_insn.specs.KindSafe.{FitsAt, IsKindSafe, LocalHolds}
use Rattle.jv_insn.specs.Kinds.{SaysOnly, WordKind, Unknown, cell_words, kind_given, kinds_left, kinds_of}
use Rattle.jv_insn.specs.Leaving.{Place, AtLocal, AtStack, Words, depth_after, is_written, source_of, source_of_top, word_after, word_at, words_below, words_given}
use Rattle.jv_types.specs.declared.shapes.Shape.{Shape}
use Rattle.jv_insn.proofs.Leaving.{stands_after, word_given, word_left}
use Rattle.jv_insn.proofs.Tables.{row_cells_given, row_passes}
use Rattle.jv_resolve.proofs.PlacesLemmas.{among_from_get}
use Rattle.av_states.specs.declared.held.Held.{Held}
use Rattle.av_states.specs.declared.held.Held.TheVariants as held
use Rattle.av_model.specs.NeverWanting.{HasKinds, kinds_held, spot_after}
use Rattle.av_model.specs.Operands.{HoldCells, given_word, kind_of_held, leave}
use Rattle.av_model.specs.Spots.{Spot, GoesOnBy, GoesTo, IsInsnAt, widest_frame}
use Rattle.av_model.proofs.KeptKinds.{said_through}
use Rattle.av_model.proofs.NeverWanting.{kinds_count, local_kinds}

-- a word of the kinds is the kind of a word
unmapped : (words : List Held) (place : ℕ) (kind : WordKind) → slice_get (map kind_of_held words) place ≡ Some kind
    → (held : Held) × (slice_get words place ≡ Some held) × (kind_of_held held ≡ kind)
unmapped [] place kind e = absurd (none-some kind e)
unmapped (x ∷ words) zero kind e = (x, refl, same_Some (kind_of_held x) kind e)
unmapped (x ∷ words) (suc place) kind e = unmapped words place kind e

-- the kind of a word that is given is that of its cell
given_kinds : (given : List Held) (index : ℕ) → (slice_index_or (map kind_of_held given) index Unknown ≡ Unknown) ⊎ (slice_index_or (map kind_of_held given) index Unknown ≡ kind_of_held (slice_index_or given index held.Word))
given_kinds [] index = inl refl
given_kinds (x ∷ given) zero = inr refl
given_kinds (x ∷ given) (suc index) = given_kinds given index

-- there is an element at each place of a list
is_there : {X : Type 0} (xs : List X) (place : ℕ) → place < length xs → slice_get xs place ≡ None → ⊥
is_there [] place lt e = omega arith
is_there (x ∷ xs) zero lt e = none-some x (sym e)
is_there (x ∷ xs) (suc place) lt e = is_there xs place (omega arith) e

-- ---- one word

-- where nothing stands in the said words that is left at a place, the place before it is a word of the stack
abbrev IsOfStack : Place → Type 0
IsOfStack (AtLocal local) = ⊥
IsOfStack (AtStack place) = Unit {0}

-- what is said of a word holds of it
abbrev SaysKind : WordKind → Held → Type 0
SaysKind kind held = (kind ≡ Unknown) ⊎ (kind ≡ kind_of_held held)

-- the kinds of words that are given, and the words
abbrev said_given : Insn → Words WordKind → Place → WordKind
said_given insn said = kind_given insn (length said.stack)

abbrev held_given : Insn → Words Held → List Held → Place → Held
held_given insn words given = given_word insn (length words.stack) given

module _ (insn : Insn) (said : Words WordKind) (words : Words Held) (given : List Held)
    (depth : length said.stack ≡ length words.stack)
    (gives : map kind_of_held given ≡ flat_map cell_words (cells_given insn.op insn.arg))
    (locals : SaysOnly said.locals (map kind_of_held words.locals))
    (stack : SaysOnly said.stack (map kind_of_held words.stack)) where
  given_says : (to : Place) → SaysKind (said_given insn said to) (held_given insn words given to)
  given_says (AtLocal local) = inr refl
  given_says (AtStack place) =
      let P : ℕ → Type 0 = λ n. SaysKind (slice_index_or (flat_map cell_words (cells_given insn.op insn.arg)) (place - words_below insn n) Unknown) (held_given insn words given (AtStack place)) in
      let Q : List WordKind → Type 0 = λ kinds. SaysKind (slice_index_or kinds (place - words_below insn (length words.stack)) Unknown) (held_given insn words given (AtStack place)) in
      subst P (sym depth) (subst Q gives (given_kinds given (place - words_below insn (length words.stack))))

  -- what is said of the place before holds of the word there
  before_says : (from : Place) (kind : WordKind) → word_at said from ≡ Some kind
      → (kind ≡ Unknown) ⊎ ((held : Held) × (word_at words from ≡ Some held) × (kind_of_held held ≡ kind))
  before_says (AtLocal local) kind at = ⊎_elim (λ unknown. inl unknown) (λ there. inr (unmapped words.locals local kind there)) (locals local kind at)
  before_says (AtStack place) kind at = ⊎_elim (λ unknown. inl unknown) (λ there. inr (unmapped words.stack place kind there)) (stack place kind at)

  -- a place of the stack at which no kind is said has no word
  none_before : (from : Place) → IsOfStack from → word_at said from ≡ None → word_at words from ≡ None
  none_before (AtLocal local) of none = absurd of
  none_before (AtStack place) of none = by (slice_get words.stack place) refl
    where
      by : (o : Option Held) → slice_get words.stack place ≡ o → slice_get words.stack place ≡ None
      by None e = e
      by (Some x) e =
          let within : place < length words.stack = slice_get_within words.stack place x e in
          let said_within : place < length said.stack = omega (arith, depth) in
          absurd (is_there said.stack place said_within none)

  -- the word at a place afterwards is of the kind that is said of it
  after_says : (to : Place) → ((from : Place) → source_of insn (length words.stack) to ≡ Some from → word_at said from ≡ None → IsOfStack from)
      → SaysKind (word_after insn (said_given insn said) said to) (word_after insn (held_given insn words given) words to)
  after_says to of_stack = by (source_of insn (length words.stack) to) refl
    where
      same : (o : Option Place) → source_of insn (length words.stack) to ≡ o → source_of insn (length said.stack) to ≡ o
      same o e = ap (λ (n : ℕ). source_of insn n to) depth ∙ e

      both : (kind : WordKind) (held : Held) → word_after insn (said_given insn said) said to ≡ kind → word_after insn (held_given insn words given) words to ≡ held → SaysKind kind held
          → SaysKind (word_after insn (said_given insn said) said to) (word_after insn (held_given insn words given) words to)
      both kind held k h says =
          let P : WordKind → Type 0 = λ x. SaysKind x (word_after insn (held_given insn words given) words to) in
          let Q : Held → Type 0 = λ x. SaysKind kind x in
          subst P (sym k) (subst Q (sym h) says)

      nothing : (from : Place) → source_of insn (length words.stack) to ≡ Some from → word_at said from ≡ None → word_at words from ≡ None
          → SaysKind (word_after insn (said_given insn said) said to) (word_after insn (held_given insn words given) words to)
      nothing from e s h =
          both (said_given insn said to) (held_given insn words given to)
          (ap (λ (o : Option Place). option_map_or (λ (from : Place). unwrap_or (word_at said from) (said_given insn said to)) o (said_given insn said to)) (same (Some from) e) ∙ ap (λ (o : Option WordKind). unwrap_or o (said_given insn said to)) s)
          (ap (λ (o : Option Place). option_map_or (λ (from : Place). unwrap_or (word_at words from) (held_given insn words given to)) o (held_given insn words given to)) e ∙ ap (λ (o : Option Held). unwrap_or o (held_given insn words given to)) h)
          (given_says to)

      from_place : (from : Place) (o : Option WordKind) → source_of insn (length words.stack) to ≡ Some from → word_at said from ≡ o
          → SaysKind (word_after insn (said_given insn said) said to) (word_after insn (held_given insn words given) words to)
      from_place from None e s = nothing from e s (none_before from (of_stack from e s) s)
      from_place from (Some kind) e s =
          let k = word_left insn (said_given insn said) said from to kind (same (Some from) e) s in
          ⊎_elim
          (λ unknown. inl (k ∙ unknown))
          (λ there. both kind there.0 k (word_left insn (held_given insn words given) words from to there.0 e there.1) (inr (sym there.2)))
          (before_says from kind s)

      by : (o : Option Place) → source_of insn (length words.stack) to ≡ o → SaysKind (word_after insn (said_given insn said) said to) (word_after insn (held_given insn words given) words to)
      by None e = both (said_given insn said to) (held_given insn words given to) (word_given insn (said_given insn said) said to (same None e)) (word_given insn (held_given insn words given) words to e) (given_says to)
      by (Some from) e = from_place from (word_at said from) e refl

  -- ---- all words

  pub left_locals : length said.locals ≤ length words.locals
      → ((local : ℕ) (from : Place) → local < length said.locals → source_of insn (length words.stack) (AtLocal local) ≡ Some from → word_at said from ≡ None → IsOfStack from)
      → SaysOnly (kinds_left insn said).locals (map kind_of_held (leave insn given words).locals)
  left_locals wide of_stack place kind at =
      let counted : length (kinds_left insn said).locals ≡ length said.locals = length-map-range_with_len (λ (local : ℕ). word_after insn (said_given insn said) said (AtLocal local)) 0 (length said.locals) in
      let within : place < length (kinds_left insn said).locals = slice_get_within (kinds_left insn said).locals place kind at in
      let lt : place < length said.locals = omega (arith, counted) in
      let s = stands_after insn (said_given insn said) said (AtLocal place) lt in
      let lt_held : place < length words.locals = omega arith in
      let h = stands_after insn (held_given insn words given) words (AtLocal place) lt_held in
      let is : word_after insn (said_given insn said) said (AtLocal place) ≡ kind = same_Some (word_after insn (said_given insn said) said (AtLocal place)) kind (sym s ∙ at) in
      ⊎_elim
      (λ unknown. inl (sym is ∙ unknown))
      (λ says. inr (slice_get-map kind_of_held (leave insn given words).locals place ∙ ap (option_map kind_of_held) h ∙ ap Some (sym says ∙ is)))
      (after_says (AtLocal place) (λ from e none. of_stack place from lt e none))

  pub left_stack : ((place : ℕ) (from : Place) → source_of insn (length words.stack) (AtStack place) ≡ Some from → word_at said from ≡ None → IsOfStack from)
      → SaysOnly (kinds_left insn said).stack (map kind_of_held (leave insn given words).stack)
  left_stack of_stack place kind at =
      let counted : length (kinds_left insn said).stack ≡ depth_after insn (length said.stack) = length-map-range_with_len (λ (n : ℕ). word_after insn (said_given insn said) said (AtStack n)) 0 (depth_after insn (length said.stack)) in
      let within : place < length (kinds_left insn said).stack = slice_get_within (kinds_left insn said).stack place kind at in
      let lt : place < depth_after insn (length said.stack) = omega (arith, counted) in
      let lt_held : place < depth_after insn (length words.stack) = subst (λ (n : ℕ). place < depth_after insn n) depth lt in
      let s = stands_after insn (said_given insn said) said (AtStack place) lt in
      let h = stands_after insn (held_given insn words given) words (AtStack place) lt_held in
      let is : word_after insn (said_given insn said) said (AtStack place) ≡ kind = same_Some (word_after insn (said_given insn said) said (AtStack place)) kind (sym s ∙ at) in
      ⊎_elim
      (λ unknown. inl (sym is ∙ unknown))
      (λ says. inr (slice_get-map kind_of_held (leave insn given words).stack place ∙ ap (option_map kind_of_held) h ∙ ap Some (sym says ∙ is)))
      (after_says (AtStack place) (λ from e none. of_stack place from e none))

  pub left_depth : length (kinds_left insn said).stack ≡ length (map kind_of_held (leave insn given words).stack)
  left_depth =
      length-map-range_with_len (λ (n : ℕ). word_after insn (said_given insn said) said (AtStack n)) 0 (depth_after insn (length said.stack))
      ∙ ap (depth_after insn) depth
      ∙ sym (length-map (leave insn given words).stack kind_of_held ∙ length-map-range_with_len (λ (n : ℕ). word_after insn (held_given insn words given) words (AtStack n)) 0 (depth_after insn (length words.stack)))

-- ---- where words are left from

-- a local variable that an instruction doesn't write keeps its word
local_before : (insn : Insn) (said : Words WordKind) (depth local : ℕ) (from : Place) → local < length said.locals
    → source_of insn depth (AtLocal local) ≡ Some from → word_at said from ≡ None → IsOfStack from
local_before insn said depth local from lt e none = by (is_written insn local) (is_store insn.op) e
  where
    by : (written store : Bool) → cond written (cond store (Some (AtStack (words_below insn depth + (local - local_of insn.op insn.arg)))) None) (Some (AtLocal local)) ≡ Some from → IsOfStack from
    by true true e = subst IsOfStack (same_Some (AtStack (words_below insn depth + (local - local_of insn.op insn.arg))) from e) tt
    by true false e = absurd (none-some from e)
    by false store e =
        let is : AtLocal local ≡ from = same_Some (AtLocal local) from e in
        absurd (is_there said.locals local lt (ap (word_at said) is ∙ none))

-- a load gives one cell
abbrev is_one : List Cell → Bool
is_one [] = false
is_one (cell ∷ []) = true
is_one (cell ∷ next ∷ cells) = false

abbrev loads_one : ℕ × OpForm → Bool
loads_one row = not (is_load row.0) || (is_one row.1.gives && not (decides_cells row.1.form))

each_loads_one : list_all loads_one opcode_rows ≡ true
unfolding opcode_rows
each_loads_one = refl

holds_then : (b c : Bool) → b ≡ true → (not b || c) ≡ true → c ≡ true
holds_then true c t h = h
holds_then false c t h = absurd cc

is_false : (b : Bool) → not b ≡ true → b ≡ false
is_false true e = absurd cc
is_false false e = refl

one_is : (cells : List Cell) → is_one cells ≡ true → (cell : Cell) × (cells ≡ cell ∷ [])
one_is [] e = absurd cc
one_is (cell ∷ []) e = (cell, refl)
one_is (cell ∷ next ∷ cells) e = absurd cc

has_row : (row : Option OpForm) (arg : Arg) → HasRowOperands row arg → (r : OpForm) × (row ≡ Some r) × HasOperands r.form arg
has_row None arg h = absurd h
has_row (Some row) arg h = (row, refl, h)

load_gives : (insn : Insn) → HasOwnOperands insn → is_load insn.op ≡ true → (cell : Cell) × (cells_given insn.op insn.arg ≡ cell ∷ [])
load_gives insn own load =
    let r = has_row (op_row insn.op) insn.arg own in
    let passes = holds_then (is_load insn.op) (is_one r.0.gives && not (decides_cells r.0.form)) load (row_passes loads_one opcode_rows insn.op r.0 each_loads_one r.1) in
    let parts = and_parts (is_one r.0.gives) (not (decides_cells r.0.form)) passes in
    let one = one_is r.0.gives parts.0 in
    (one.0, row_cells_given insn.op insn.arg r.0 r.1 r.2 (is_false (decides_cells r.0.form) parts.1) ∙ one.1)

width_is : (cell : Cell) → width_of (cell ∷ []) ≡ length (flat_map cell_words (cell ∷ []))
width_is cells.Int = refl
width_is cells.Float = refl
width_is cells.Long = refl
width_is cells.Double = refl
width_is cells.Ref = refl
width_is cells.Null = refl

-- the frame says what a load reads
load_said : (insn : Insn) (frame : Frame) (above : ℕ) → HasOwnOperands insn → All (LocalHolds frame) (effect_of insn).reads → is_load insn.op ≡ true
    → above < width_of (cells_given insn.op insn.arg) → slice_get (kinds_of frame).locals (local_of insn.op insn.arg + above) ≡ None → ⊥
load_said insn frame above own reads load lt none =
    let one = load_gives insn own load in
    let cell = one.0 in
    let local = local_of insn.op insn.arg in
    let K = flat_map cell_words (cell ∷ []) in
    let reads_are : locals_read insn.op insn.arg ≡ (local, cell) ∷ [] =
    ap (λ (b : Bool). cond b (map (λ (c : Cell). (local, c)) (cells_given insn.op insn.arg)) (cond (eqb insn.op IINC) ((local, cells.Int) ∷ []) [])) load
    ∙ ap (map (λ (c : Cell). (local, c))) one.1 in
    let P : List (ℕ × Cell) → Type 0 = λ rs. All (LocalHolds frame) rs in
    let all = subst P reads_are reads in
    let holds : LocalHolds frame (local, cell) = all 0 (local, cell) (omega arith) in
    let found = local_kinds cell local false frame.locals holds in
    let counted : length (kinds_of frame).locals ≡ (length found.0 + length K) + length found.1 =
    ap length found.3 ∙ length-append (found.0 ++ K) found.1 ∙ ap (λ (n : ℕ). n + length found.1) (length-append found.0 K) in
    let within : above < length K = subst (λ (n : ℕ). above < n) (ap width_of one.1 ∙ width_is cell) lt in
    is_there (kinds_of frame).locals (local + above) (omega (arith, counted, found.2)) none

stack_before : (insn : Insn) (frame : Frame) (depth place : ℕ) (from : Place) → HasOwnOperands insn → All (LocalHolds frame) (effect_of insn).reads
    → source_of insn depth (AtStack place) ≡ Some from → word_at (kinds_of frame) from ≡ None → IsOfStack from
stack_before insn frame depth place from own reads e none = by (ltb place (words_below insn depth)) e
  where
    loaded : (moves : Option Shuffle) (load : Bool) → shuffle_of insn.op ≡ moves → is_load insn.op ≡ load
        → source_of_top moves insn (words_below insn depth) (place - words_below insn depth) ≡ Some from → IsOfStack from
    loaded (Some shuffle) load m l e = moved (slice_get shuffle.order (place - words_below insn depth)) e
      where
        moved : (o : Option ℕ) → option_map (λ (from : ℕ). AtStack (words_below insn depth + from)) o ≡ Some from → IsOfStack from
        moved None e = absurd (none-some from e)
        moved (Some n) e = subst IsOfStack (same_Some (AtStack (words_below insn depth + n)) from e) tt
    loaded None load m l e = by_load (is_load insn.op) (ltb (place - words_below insn depth) (words_given insn)) refl refl e
      where
        by_load : (a b : Bool) → is_load insn.op ≡ a → ltb (place - words_below insn depth) (words_given insn) ≡ b
            → cond (a && b) (Some (AtLocal (local_of insn.op insn.arg + (place - words_below insn depth)))) None ≡ Some from → IsOfStack from
        by_load true true a b e =
            let is : AtLocal (local_of insn.op insn.arg + (place - words_below insn depth)) ≡ from =
            same_Some (AtLocal (local_of insn.op insn.arg + (place - words_below insn depth))) from e in
            let width : words_given insn ≡ width_of (cells_given insn.op insn.arg) =
            ap (λ (o : Option Shuffle). option_map_or (λ (shuffle : Shuffle). length shuffle.order) o (width_of (cells_given insn.op insn.arg))) m in
            let lt : place - words_below insn depth < width_of (cells_given insn.op insn.arg) =
            subst (λ (n : ℕ). place - words_below insn depth < n) width (ltb-true (place - words_below insn depth) (words_given insn) b) in
            absurd (load_said insn frame (place - words_below insn depth) own reads a lt (ap (word_at (kinds_of frame)) is ∙ none))
        by_load true false a b e = absurd (none-some from e)
        by_load false c a b e = absurd (none-some from e)

    by : (below : Bool) → cond below (Some (AtStack place)) (source_of_top (shuffle_of insn.op) insn (words_below insn depth) (place - words_below insn depth)) ≡ Some from → IsOfStack from
    by true e = subst IsOfStack (same_Some (AtStack place) from e) tt
    by false e = loaded (shuffle_of insn.op) (is_load insn.op) refl refl e

-- ---- an instruction that goes on

-- a frame has no more local variables than the widest
widest_has : (frames : List (ℕ × Frame)) (pc : ℕ) (frame : Frame) → at_offset pc frames ≡ Some frame → length frame.locals ≤ widest_frame frames
widest_has [] pc frame e = absurd (none-some frame e)
widest_has (row ∷ rows) pc frame e = by (eqb row.0 pc) (λ h. widest_has rows pc frame h) e
  where
    by : (b : Bool) → (at_offset pc rows ≡ Some frame → length frame.locals ≤ widest_frame rows) → cond b (Some row.1) (at_offset pc rows) ≡ Some frame → length frame.locals ≤ max (length row.1.locals) (widest_frame rows)
    by true more e =
        let is : row.1 ≡ frame = same_Some row.1 frame e in
        let counts : length row.1.locals ≡ length frame.locals = ap (λ (f : Frame). length f.locals) is in
        omega (arith, counts)
    by false more e = let within : length frame.locals ≤ widest_frame rows = more e in omega arith

-- the frame at the place where an instruction goes fits what it leaves
fits_there : (w : List Shape) (spot : Spot) (insn : Insn) (branch to : ℕ) → IsKindSafe w spot.framed → (at : FitsAt spot.framed.frames spot.pc (kinds_held spot.words))
    → IsInsnAt spot insn → GoesTo spot insn branch to → FitsAt spot.framed.frames to (kinds_left insn (kinds_of at.frame))
fits_there w spot insn branch to safe at is goes = by (effect_of insn).falls branch refl goes
  where
    jumped : (number : ℕ) → slice_get (effect_of insn).targets number ≡ Some to → FitsAt spot.framed.frames to (kinds_left insn (kinds_of at.frame))
    jumped number e = (safe.each spot.pc insn at.frame is at.stands).jumps to (among_from_get (effect_of insn).targets number to e)

    by : (falls : Bool) (branch : ℕ) → (effect_of insn).falls ≡ falls → GoesOnBy falls spot.framed.body insn spot.pc branch to
        → FitsAt spot.framed.frames to (kinds_left insn (kinds_of at.frame))
    by true zero f next =
        let fits = (safe.each spot.pc insn at.frame is at.stands).falls f in
        let one : fits.next ≡ to = omega (arith, fits.follows.least to next.above next.starts, next.least fits.next fits.follows.above fits.follows.starts) in
        subst (λ (place : ℕ). FitsAt spot.framed.frames place (kinds_left insn (kinds_of at.frame))) one fits.fits
    by true (suc number) f e = jumped number e
    by false number f e = jumped number e

pub goes_on_kinds : (w : List Shape) (spot : Spot) (insn : Insn) (given : List Held) (branch to : ℕ) → IsKindSafe w spot.framed → HasKinds spot
    → IsInsnAt spot insn → HoldCells (effect_of insn).gives given → GoesTo spot insn branch to → HasKinds (spot_after spot insn given to)
goes_on_kinds w spot insn given branch to safe kinds is gives goes =
    let at = kinds.fits in
    let frame = at.frame in
    let said = kinds_of frame in
    let words = spot.words in
    let here = safe.each spot.pc insn frame is at.stands in
    let there = fits_there w spot insn branch to safe at is goes in
    let depth : length said.stack ≡ length words.stack = at.fits.depth ∙ length-map words.stack kind_of_held in
    let counted : length said.locals ≡ length frame.locals = kinds_count false frame.locals in
    let wide : length said.locals ≤ length words.locals = omega (arith, counted, widest_has spot.framed.frames spot.pc frame at.stands, kinds.wide) in
    let locals = left_locals insn said words given depth gives at.fits.locals at.fits.stack wide
    (λ local from lt e none. local_before insn said (length words.stack) local from lt e none) in
    let stack = left_stack insn said words given depth gives at.fits.locals at.fits.stack
    (λ place from e none. stack_before insn frame (length words.stack) place from here.operands here.reads e none) in
    let kept : length (leave insn given words).locals ≡ length words.locals =
    length-map-range_with_len (λ (local : ℕ). word_after insn (held_given insn words given) words (AtLocal local)) 0 (length words.locals) in
    record {
      fits = record {
        frame = there.frame;
        stands = there.stands;
        fits = record {
          locals = said_through (kinds_of there.frame).locals (kinds_left insn said).locals (map kind_of_held (leave insn given words).locals) there.fits.locals locals;
          stack = said_through (kinds_of there.frame).stack (kinds_left insn said).stack (map kind_of_held (leave insn given words).stack) there.fits.stack stack;
          depth = there.fits.depth ∙ left_depth insn said words given depth gives at.fits.locals at.fits.stack;
        };
      };
      wide = omega (arith, kept, kinds.wide);
    }
