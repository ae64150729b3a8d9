-- What a store leaves in the local variables has the kinds of what it takes from the stack.
use Rattle.std.proofs.Common.{◌≡◌, ℕ, suc, ◌+◌, ◌-◌, ◌<◌, ◌≤◌, Bool, true, false, cond, eqb, ltb, List, [], ◌∷◌, ◌++◌, length, Some, slice_get, refl, sym, ap, ◌∙◌, subst, ◌⊎◌, inl, inr, arith}
use Rattle.std.specs.Prelude.{◌&&◌, ◌||◌, nat_le, map}
use Rattle.std.specs.List.{AllZip, flat_map, list_any}
use Rattle.std.proofs.lemmas.Bool.Decides.{nat_tests}
use Rattle.std.proofs.lemmas.List.{length-append}
use Rattle.std.proofs.lemmas.List.Sums.{sum_by-cons}
use Rattle.jv_lists.proofs.Places.{slice_get-front}
use Rattle.jv_table.specs.declared.ops.TheConstants.{IINC}
use Rattle.jv_table.specs.declared.code_tables.Cell.{Cell}
use Rattle.jv_types.specs.declared.instruction.Insn.{Insn}
use Rattle.jv_types.specs.declared.frames.VType.{VType, Top}
use Rattle.jv_types.specs.declared.frames.VType as types
use Rattle.jv_types.specs.declared.frames.Frame.{Frame}
use Rattle.jv_insn.specs.Effects.{effect_of, cell_width, width_of, cells_taken, is_store, local_of}
use Rattle.jv_insn.specs.Forms.{HasOwnOperands}
use Rattle.jv_insn.specs.Kinds.{is_wide, WordKind, Unknown, cell_words, kind_of, kinds_after, kinds_of, kind_given, kinds_left, SaysOnly}
use Rattle.jv_insn.specs.Leaving.{Words, AtLocal, AtStack, is_written, Leaves}
use Rattle.jv_insn.proofs.HeldCells.{held_kinds}
use Rattle.jv_insn.proofs.Leaving.{stored_left, stands_after, word_left}
use Rattle.jv_typing.specs.Typing.{is_top, halved, AreStored}
use Rattle.jv_typing.proofs.TypingOnce.{cells_long}
use Rattle.jv_typing_laws.specs.Formed.{are_formed, IsFormed}
use Rattle.jv_typing_laws.proofs.FormedWords.{head_parts, fits_behind, behind, halved_front}
use Rattle.jv_typing_laws.proofs.KindsOfWords.{kinds_join, kinds_long, IsLess, less_says, less_itself}
use Rattle.jv_typing_laws.proofs.CellSteps.{IsCellStep}
use Rattle.jv_typing_laws.proofs.KindsLeft.{get_right, width_long, covers, writes_are, stays}

-- ---- words that lost a half, and words behind those that are stored

wide_no_top : (type : VType) → is_wide type ≡ true → is_top type ≡ true → ⊥
wide_no_top types.Top w t = absurd cc
wide_no_top types.Integer w t = absurd cc
wide_no_top types.Float w t = absurd cc
wide_no_top types.Long w t = absurd cc
wide_no_top types.Double w t = absurd cc
wide_no_top types.Null w t = absurd cc
wide_no_top types.UninitThis w t = absurd cc
wide_no_top (types.Uninit pc) w t = absurd cc
wide_no_top (types.Class name) w t = absurd cc
wide_no_top (types.PrimArray prim) w t = absurd cc
wide_no_top (types.Array' shape all) w t = absurd cc

half_less : (second wide : Bool) (type : VType) → is_wide type ≡ wide → fits_behind second type ≡ true → IsLess (kind_of second (cond wide Top type)) (kind_of second type)
half_less second false type w fits = inr refl
half_less false true type w fits = inl refl
half_less true true type w fits = absurd (wide_no_top type w fits)

halved_less : (second : Bool) (xs rest : List VType) → are_formed second (xs ++ rest) ≡ true → AllZip IsLess (kinds_after second (halved xs)) (kinds_after second xs)
halved_less second [] rest f = tt
halved_less second (type ∷ []) rest f = (half_less second (is_wide type) type refl (head_parts second type rest f).behind, tt)
halved_less second (type ∷ next ∷ xs) rest f = (inr refl, halved_less (is_wide type) (next ∷ xs) rest (head_parts second type (next ∷ xs ++ rest) f).rest)

halved_long : (xs : List VType) → length (halved xs) ≡ length xs
halved_long [] = refl
halved_long (type ∷ []) = refl
halved_long (type ∷ next ∷ xs) = ap suc (halved_long (next ∷ xs))

first_less : (second : Bool) (type : VType) → IsLess (kind_of false type) (kind_of second type)
first_less second types.Top = inl refl
first_less second types.Integer = inr refl
first_less second types.Float = inr refl
first_less second types.Long = inr refl
first_less second types.Double = inr refl
first_less second types.Null = inr refl
first_less second types.UninitThis = inr refl
first_less second (types.Uninit pc) = inr refl
first_less second (types.Class name) = inr refl
first_less second (types.PrimArray prim) = inr refl
first_less second (types.Array' shape all) = inr refl

behind_less : (second : Bool) (xs : List VType) → AllZip IsLess (kinds_after false xs) (kinds_after second xs)
behind_less second [] = tt
behind_less second (type ∷ xs) = (first_less second type, less_itself (kinds_after (is_wide type) xs))

-- kinds of words in two parts, whatever the first part ends with
record KindParts (second : Bool) (xs ys : List VType) : Type 0 where
  behind : Bool
  are : kinds_after second (xs ++ ys) ≡ kinds_after second xs ++ kinds_after behind ys

kind_parts : (second : Bool) (xs ys : List VType) → KindParts second xs ys
kind_parts second [] ys = record { behind = second; are = refl }
kind_parts second (x ∷ xs) ys = let rest = kind_parts (is_wide x) xs ys in record { behind = rest.behind; are = ap (λ (ks : List WordKind). kind_of second x ∷ ks) rest.are }

-- ---- the local variables that a store writes

width_cons : (cell : Cell) (cells : List Cell) → width_of (cell ∷ cells) ≡ cell_width cell + width_of cells
width_cons cell cells = sum_by-cons cell_width cell cells

written_within : (cells : List Cell) (own local : ℕ) → list_any (covers local) (map (λ (cell : Cell). (own, cell)) cells) ≡ true → (own ≤ local) × (local < own + width_of cells)
written_within [] own local w = absurd cc
written_within (cell ∷ cells) own local w = by (covers local (own, cell)) refl w (λ more. written_within cells own local more)
  where
    by : (b : Bool) → covers local (own, cell) ≡ b → (b || list_any (covers local) (map (λ (cell : Cell). (own, cell)) cells)) ≡ true
        → (list_any (covers local) (map (λ (cell : Cell). (own, cell)) cells) ≡ true → (own ≤ local) × (local < own + width_of cells)) → (own ≤ local) × (local < own + width_of (cell ∷ cells))
    by true is more rest_within =
        let here : (own ≤ local) × (local < own + cell_width cell) = within own local (cell_width cell) is in
        let wide = width_cons cell cells in
        (here.0, omega (arith, here.1, wide))
      where
        within : (own local width : ℕ) → (nat_le own local && ltb local (own + width)) ≡ true → (own ≤ local) × (local < own + width)
        within own local width t = (grind (arith, nat_tests), grind (arith, nat_tests))
    by false is more rest_within =
        let rest = rest_within more in
        let wide = width_cons cell cells in
        (rest.0, omega (arith, rest.1, wide))

-- where a store writes nothing
unwritten : (insn : Insn) (local : ℕ) → is_store insn.op ≡ true → (local < local_of insn.op insn.arg) ⊎ (local_of insn.op insn.arg + width_of (cells_taken insn.op insn.arg) ≤ local) → is_written insn local ≡ false
unwritten insn local store out = by (is_written insn local) refl
  where
    by : (b : Bool) → is_written insn local ≡ b → b ≡ false
    by false w = refl
    by true w =
        let test = sym (ap (list_any (covers local)) (writes_are insn true (eqb insn.op IINC) store refl)) ∙ w in
        let range = written_within (cells_taken insn.op insn.arg) (local_of insn.op insn.arg) local test in
        absurd (outside range out)
      where
        outside : (local_of insn.op insn.arg ≤ local) × (local < local_of insn.op insn.arg + width_of (cells_taken insn.op insn.arg))
            → (local < local_of insn.op insn.arg) ⊎ (local_of insn.op insn.arg + width_of (cells_taken insn.op insn.arg) ≤ local) → ⊥
        outside range (inl lt) = omega (arith, range.0, lt)
        outside range (inr le) = omega (arith, range.1, le)

-- the kinds before a store in three parts, and those afterwards
record StoreParts (insn : Insn) (words : Words WordKind) (before lost rest halves taken later : List WordKind) : Type 0 where
  store : is_store insn.op ≡ true
  own : HasOwnOperands insn
  whole : words.locals ≡ before ++ (lost ++ rest)
  place : length before ≡ local_of insn.op insn.arg
  as_long : length halves ≡ length before
  lost_long : length lost ≡ length taken
  taken_long : length taken ≡ width_of (cells_taken insn.op insn.arg)
  less : AllZip IsLess halves before
  rest_less : AllZip IsLess later rest
  under : List WordKind
  stack : words.stack ≡ under ++ taken

store_says : (insn : Insn) (words : Words WordKind) (before lost rest halves taken later : List WordKind) → StoreParts insn words before lost rest halves taken later
    → SaysOnly (halves ++ (taken ++ later)) (kinds_left insn words).locals
store_says insn words before lost rest halves taken later p place kind e = by (ltb place (length halves)) refl (ltb place (length halves + length taken)) refl
  where
    kept : ((place < local_of insn.op insn.arg) ⊎ (local_of insn.op insn.arg + width_of (cells_taken insn.op insn.arg) ≤ place)) → (kind ≡ Unknown) ⊎ (slice_get words.locals place ≡ Some kind)
        → (kind ≡ Unknown) ⊎ (slice_get (kinds_left insn words).locals place ≡ Some kind)
    kept out (inl u) = inl u
    kept out (inr at) = inr (stays insn words place kind (unwritten insn place p.store out) at)

    lift : (place : ℕ) (xs : List WordKind) (k : ℕ) → slice_get words.locals place ≡ slice_get xs k → (kind ≡ Unknown) ⊎ (slice_get xs k ≡ Some kind) → (kind ≡ Unknown) ⊎ (slice_get words.locals place ≡ Some kind)
    lift place xs k same (inl u) = inl u
    lift place xs k same (inr at) = inr (same ∙ at)

    low : place < length halves → (kind ≡ Unknown) ⊎ (slice_get (kinds_left insn words).locals place ≡ Some kind)
    low lt =
        let at : slice_get halves place ≡ Some kind = sym (slice_get-front halves (taken ++ later) place lt) ∙ e in
        let same : slice_get words.locals place ≡ slice_get before place = ap (λ (l : List WordKind). slice_get l place) p.whole ∙ slice_get-front before (lost ++ rest) place (omega (arith, lt, p.as_long)) in
        kept (inl (omega (arith, lt, p.as_long, p.place))) (lift place before place same (less_says halves before p.less place kind at))

    middle : (n : ℕ) → place ≡ length halves + n → n < length taken → (kind ≡ Unknown) ⊎ (slice_get (kinds_left insn words).locals place ≡ Some kind)
    middle n is lt =
        let at : slice_get taken n ≡ Some kind = sym (slice_get-front taken later n lt) ∙ sym (get_right halves (taken ++ later) place n is) ∙ e in
        let depth : ℕ = length words.stack in
        let width : ℕ = width_of (cells_taken insn.op insn.arg) in
        let long : length words.stack ≡ length p.under + length taken = ap length p.stack ∙ length-append p.under taken in
        let from : length words.stack - width_of (cells_taken insn.op insn.arg) ≡ length p.under = omega (arith, long, p.taken_long) in
        let to : place ≡ local_of insn.op insn.arg + n = omega (arith, is, p.as_long, p.place) in
        let narrow : n < width_of (cells_taken insn.op insn.arg) = omega (arith, lt, p.taken_long) in
        let leaves : Leaves insn (length words.stack) (AtStack ((length words.stack - width_of (cells_taken insn.op insn.arg)) + n)) (AtLocal place) =
        subst (λ (k : ℕ). Leaves insn (length words.stack) (AtStack ((length words.stack - width_of (cells_taken insn.op insn.arg)) + n)) (AtLocal k)) (sym to) (stored_left insn (length words.stack) n p.own p.store narrow) in
        let there : slice_get words.stack ((length words.stack - width_of (cells_taken insn.op insn.arg)) + n) ≡ Some kind =
        ap (λ (l : List WordKind). slice_get l ((length words.stack - width_of (cells_taken insn.op insn.arg)) + n)) p.stack
        ∙ get_right p.under taken ((length words.stack - width_of (cells_taken insn.op insn.arg)) + n) n (ap (λ (k : ℕ). k + n) from) ∙ at in
        let total : length words.locals ≡ length before + (length lost + length rest) = ap length p.whole ∙ length-append before (lost ++ rest) ∙ ap (λ (k : ℕ). length before + k) (length-append lost rest) in
        let inside : place < length words.locals = omega (arith, total, is, lt, p.as_long, p.lost_long) in
        inr
        (stands_after insn (kind_given insn (length words.stack)) words (AtLocal place) inside
        ∙ ap Some (word_left insn (kind_given insn (length words.stack)) words (AtStack ((length words.stack - width_of (cells_taken insn.op insn.arg)) + n)) (AtLocal place) kind leaves there))

    high : (n : ℕ) → place ≡ (length halves + length taken) + n → (kind ≡ Unknown) ⊎ (slice_get (kinds_left insn words).locals place ≡ Some kind)
    high n is =
        let first : place ≡ length halves + (length taken + n) = omega (arith, is) in
        let at : slice_get later n ≡ Some kind = sym (get_right taken later (length taken + n) n refl) ∙ sym (get_right halves (taken ++ later) place (length taken + n) first) ∙ e in
        let inner : place ≡ length before + (length lost + n) = omega (arith, is, p.as_long, p.lost_long) in
        let same : slice_get words.locals place ≡ slice_get rest n =
        ap (λ (l : List WordKind). slice_get l place) p.whole ∙ get_right before (lost ++ rest) place (length lost + n) inner ∙ get_right lost rest (length lost + n) n refl in
        kept (inr (omega (arith, is, p.as_long, p.place, p.taken_long))) (lift place rest n same (less_says later rest p.rest_less n kind at))

    by : (b : Bool) → ltb place (length halves) ≡ b → (c : Bool) → ltb place (length halves + length taken) ≡ c → (kind ≡ Unknown) ⊎ (slice_get (kinds_left insn words).locals place ≡ Some kind)
    by true is c was = low (grind (arith, nat_tests))
    by false is true was =
        let le : length halves ≤ place = grind (arith, nat_tests) in
        let lt : place < length halves + length taken = grind (arith, nat_tests) in
        middle (place - length halves) (omega (arith, le)) (omega (arith, le, lt))
    by false is false was =
        let le : length halves + length taken ≤ place = grind (arith, nat_tests) in
        high (place - (length halves + length taken)) (omega (arith, le))

pub stored_says : (insn : Insn) (frame after : Frame) → HasOwnOperands insn → IsFormed frame → (step : IsCellStep insn frame after) → is_store insn.op ≡ true
    → AreStored (local_of insn.op insn.arg) step.takes.top frame.locals after.locals → SaysOnly (kinds_after false after.locals) (kinds_left insn (kinds_of frame)).locals
stored_says insn frame after own f step store s =
    let takes : List Cell = (effect_of insn).takes in
    let taken : List WordKind = flat_map cell_words takes in
    let locals : are_formed false (s.before ++ (s.lost ++ s.behind)) ≡ true = ap (are_formed false) (sym s.whole) ∙ f.locals in
    let stack : are_formed false (step.takes.below ++ step.takes.top) ≡ true = ap (are_formed false) (sym step.takes.whole) ∙ f.stack in
    let outer = kind_parts false s.before (s.lost ++ s.behind) in
    let inner = kind_parts outer.behind s.lost s.behind in
    let before : List WordKind = kinds_after false s.before in
    let lost : List WordKind = kinds_after outer.behind s.lost in
    let rest : List WordKind = kinds_after inner.behind s.behind in
    let halves : List WordKind = kinds_after false (halved s.before) in
    let later : List WordKind = kinds_after false s.behind in
    let whole : kinds_after false frame.locals ≡ before ++ (lost ++ rest) = ap (kinds_after false) s.whole ∙ outer.are ∙ ap (λ (ks : List WordKind). before ++ ks) inner.are in
    let words : kinds_after false step.takes.top ≡ taken = held_kinds takes false [] step.takes.top step.takes.holds in
    let left : kinds_after false after.locals ≡ halves ++ (taken ++ later) =
    ap (kinds_after false) s.left ∙ kinds_join false (halved s.before) (step.takes.top ++ s.behind) (halved_front s.before (s.lost ++ s.behind) locals)
    ∙ ap (λ (ks : List WordKind). halves ++ ks) (kinds_join false step.takes.top s.behind (behind false step.takes.below step.takes.top stack) ∙ ap (λ (ks : List WordKind). ks ++ later) words) in
    let top_long : length step.takes.top ≡ length taken = cells_long takes step.takes.top step.takes.holds in
    let parts : StoreParts insn (kinds_of frame) before lost rest halves taken later = record {
      store = store;
      own = own;
      whole = whole;
      place = kinds_long false s.before ∙ s.place;
      as_long = kinds_long false (halved s.before) ∙ halved_long s.before ∙ sym (kinds_long false s.before);
      lost_long = kinds_long outer.behind s.lost ∙ s.as_many ∙ top_long;
      taken_long = width_long takes;
      less = halved_less false s.before (s.lost ++ s.behind) locals;
      rest_less = behind_less inner.behind s.behind;
      under = kinds_after false step.takes.below;
      stack = ap (kinds_after false) step.takes.whole ∙ held_kinds takes false step.takes.below step.takes.top step.takes.holds;
    } in
    subst (λ (ks : List WordKind). SaysOnly ks (kinds_left insn (kinds_of frame)).locals) (sym left) (store_says insn (kinds_of frame) before lost rest halves taken later parts)
