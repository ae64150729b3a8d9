-- After each instruction a frame says no more than the kinds of words that the instruction leaves.
use Rattle.std.proofs.Common.{◌≡◌, ℕ, zero, suc, ◌+◌, ◌<◌, Bool, true, false, cond, eqb, ltb, not, List, [], ◌∷◌, ◌++◌, length, Option, Some, slice_get, refl, sym, ap, ◌∙◌, subst, ◌⊎◌, inl, inr, arith}
use Rattle.std.specs.Prelude.{map, slice_index_or}
use Rattle.std.specs.List.{list_all}
use Rattle.std.specs.Option.{option_map_or}
use Rattle.std.proofs.lemmas.Bool.{and_parts}
use Rattle.std.proofs.lemmas.Bool.Decides.{nat_tests}
use Rattle.std.proofs.lemmas.List.{length-map}
use Rattle.jv_table.specs.declared.ops.TheConstants.{IINC}
use Rattle.jv_types.specs.declared.shapes.Shape.{Shape}
use Rattle.jv_types.specs.declared.instruction.Insn.{Insn}
use Rattle.jv_types.specs.declared.frames.VType.{VType, Top}
use Rattle.jv_types.specs.declared.frames.VType as types
use Rattle.jv_types.specs.declared.frames.Frame.{Frame}
use Rattle.jv_insn.specs.Effects.{Shuffle, shuffles, width_of, cells_taken, cells_given, is_store, local_of}
use Rattle.jv_insn.specs.Forms.{HasOwnOperands}
use Rattle.jv_insn.specs.Kinds.{is_wide, WordKind, kind_of, kinds_after, kinds_of, kind_given, kinds_left, SaysOnly, SaysNoMore}
use Rattle.jv_insn.specs.Leaving.{Words, AtStack, words_below}
use Rattle.jv_insn.proofs.Leaving.{moved_left, word_left}
use Rattle.jv_insn.proofs.Tables.{row_passes}
use Rattle.jv_frames.specs.Assignable.{IsFrameAssignable}
use Rattle.jv_typing.specs.Typing.{is_top, are_whole, in_order, StoresWhere, IsMoveTyping}
use Rattle.jv_typing.specs.Transitions.{AreReplaced}
use Rattle.jv_typing_laws.specs.Formed.{are_formed, IsFormed}
use Rattle.jv_typing_laws.proofs.FormedWords.{front, whole_begins}
use Rattle.jv_typing_laws.proofs.KindsOfWords.{kinds_join, kinds_long, less_says, less_long, says_through, assignable_less, all_replaced_less}
use Rattle.jv_typing_laws.proofs.CellSteps.{IsCellStep, IsReplacing, IsStepOf, by_cells, by_replacing, by_moving}
use Rattle.jv_typing_laws.proofs.FormedFrames.{cell_formed}
use Rattle.jv_typing_laws.proofs.KindsLeft.{StackChange, AreGiven, stack_says, below_is, depth_is, get_right, cell_stack, all_stay, none_written, inc_says}
use Rattle.jv_typing_laws.proofs.KindsStored.{stored_says}

-- ---- what says no more than others

pub no_more_through : (a b c : Words WordKind) → SaysNoMore a b → SaysNoMore b c → SaysNoMore a c
no_more_through a b c f g = record {
  locals = says_through a.locals b.locals c.locals f.locals g.locals;
  stack = says_through a.stack b.stack c.stack f.stack g.stack;
  depth = f.depth ∙ g.depth;
}

-- a frame says no more than one that is assignable to it
pub assignable_says : (w : List Shape) (frame there : Frame) → IsFormed frame → IsFrameAssignable w frame there → SaysNoMore (kinds_of there) (kinds_of frame)
assignable_says w frame there f a =
    let locals = assignable_less w false false frame.locals there.locals (λ h. h) f.locals a.locals in
    let stack = assignable_less w false false frame.stack there.stack (λ h. h) f.stack a.stack in
    record {
      locals = less_says (kinds_after false there.locals) (kinds_after false frame.locals) locals;
      stack = less_says (kinds_after false there.stack) (kinds_after false frame.stack) stack;
      depth = less_long (kinds_after false there.stack) (kinds_after false frame.stack) stack;
    }

-- ---- cells

kept_says : (insn : Insn) (frame after : Frame) → IsCellStep insn frame after → is_store insn.op ≡ false → (inc : Bool) → eqb insn.op IINC ≡ inc → SaysOnly (kinds_after false frame.locals) (kinds_left insn (kinds_of frame)).locals
kept_says insn frame after step store false inc = all_stay insn (kinds_of frame) (none_written insn store inc)
kept_says insn frame after step store true inc = inc_says insn frame store inc step.reads

cell_locals : (insn : Insn) (frame after : Frame) → HasOwnOperands insn → IsFormed frame → (step : IsCellStep insn frame after) → (stores : Bool) → is_store insn.op ≡ stores
    → StoresWhere stores (local_of insn.op insn.arg) step.takes.top frame.locals after.locals → SaysOnly (kinds_after false after.locals) (kinds_left insn (kinds_of frame)).locals
cell_locals insn frame after own f step true store s = stored_says insn frame after own f step store s
cell_locals insn frame after own f step false store s =
    subst (λ (locals : List VType). SaysOnly (kinds_after false locals) (kinds_left insn (kinds_of frame)).locals) (sym s) (kept_says insn frame after step store (eqb insn.op IINC) refl)

cell_says : (insn : Insn) (frame after : Frame) → HasOwnOperands insn → IsFormed frame → IsCellStep insn frame after → SaysNoMore (kinds_of after) (kinds_left insn (kinds_of frame))
cell_says insn frame after own f step =
    let stack = cell_stack insn frame after own step in
    record { locals = cell_locals insn frame after own f step (is_store insn.op) refl step.locals; stack = stack.stack; depth = stack.depth }

-- ---- types in place of others

replaced_says : (before after : Frame) → IsFormed before → IsReplacing before after → SaysNoMore (kinds_of after) (kinds_of before)
replaced_says before after f r = by r.stack
  where
    locals : SaysOnly (kinds_after false after.locals) (kinds_after false before.locals)
    locals = less_says (kinds_after false after.locals) (kinds_after false before.locals) (all_replaced_less false r.old r.new before.locals after.locals r.may f.locals r.locals)

    by : AreReplaced r.old r.new before.stack after.stack ⊎ (after.stack ≡ before.stack) → SaysNoMore (kinds_of after) (kinds_of before)
    by (inl s) =
        let less = all_replaced_less false r.old r.new before.stack after.stack r.may f.stack s in
        record { locals = locals; stack = less_says (kinds_after false after.stack) (kinds_after false before.stack) less; depth = less_long (kinds_after false after.stack) (kinds_after false before.stack) less }
    by (inr e) =
        let same : kinds_after false after.stack ≡ kinds_after false before.stack = ap (kinds_after false) e in
        record { locals = locals; stack = subst (λ (ks : List WordKind). SaysOnly (kinds_after false after.stack) ks) same (λ place kind at. inr at); depth = ap length same }

-- ---- words that are moved

whole_kind : (second : Bool) (type : VType) → cond second (is_top type) (not (is_top type)) ≡ true → kind_of second type ≡ kind_of true type
whole_kind true type t = refl
whole_kind false types.Top t = absurd cc
whole_kind false types.Integer t = refl
whole_kind false types.Float t = refl
whole_kind false types.Long t = refl
whole_kind false types.Double t = refl
whole_kind false types.Null t = refl
whole_kind false types.UninitThis t = refl
whole_kind false (types.Uninit pc) t = refl
whole_kind false (types.Class name) t = refl
whole_kind false (types.PrimArray prim) t = refl
whole_kind false (types.Array' shape all) t = refl

whole_kinds : (second : Bool) (words : List VType) → are_whole second words ≡ true → kinds_after second words ≡ map (kind_of true) words
whole_kinds second [] w = refl
whole_kinds second (type ∷ words) w =
    let parts = and_parts (cond second (is_top type) (not (is_top type))) (are_whole (is_wide type) words) w in
    let first = whole_kind second type parts.0 in
    let rest = whole_kinds (is_wide type) words parts.1 in
    λ i. first i ∷ rest i

record IsMoved (order : List ℕ) (top : List VType) (n : ℕ) (kind : WordKind) : Type 0 where
  from : ℕ
  at : slice_get order n ≡ Some from
  is : kind_of true (slice_index_or top from Top) ≡ kind

moved_from : (order : List ℕ) (top : List VType) (n : ℕ) (kind : WordKind) → slice_get (map (kind_of true) (in_order order top)) n ≡ Some kind → IsMoved order top n kind
moved_from [] top n kind e = absurd cc
moved_from (place ∷ order) top zero kind e = record { from = place; at = refl; is = cc }
moved_from (place ∷ order) top (suc n) kind e = let rest = moved_from order top n kind e in record { from = rest.from; at = rest.at; is = rest.is }

kind_there : (top : List VType) (from : ℕ) → from < length top → slice_get (map (kind_of true) top) from ≡ Some (kind_of true (slice_index_or top from Top))
kind_there [] from lt = absurd (omega arith)
kind_there (type ∷ top) zero lt = refl
kind_there (type ∷ top) (suc from) lt = kind_there top from (omega arith)

abbrev is_below : ℕ → ℕ → Bool
is_below count place = ltb place count

abbrev is_bounded : ℕ × Shuffle → Bool
is_bounded row = list_all (is_below row.1.count) row.1.order

all_bounded : list_all is_bounded shuffles ≡ true
all_bounded = refl

one_bounded : (count : ℕ) (order : List ℕ) (n from : ℕ) → list_all (is_below count) order ≡ true → slice_get order n ≡ Some from → ltb from count ≡ true
one_bounded count [] n from b e = absurd cc
one_bounded count (place ∷ order) zero from b e = let same : place ≡ from = cc in ap (is_below count) (sym same) ∙ (and_parts (is_below count place) (list_all (is_below count) order) b).0
one_bounded count (place ∷ order) (suc n) from b e = one_bounded count order n from (and_parts (is_below count place) (list_all (is_below count) order) b).1 e

move_change : (max_stack : ℕ) (insn : Insn) (frame after : Frame) → (m : IsMoveTyping max_stack frame insn after) → are_formed false m.below ≡ true
    → StackChange insn (kinds_of frame) (kinds_after false m.below) (kinds_after false m.top) (kinds_after false (in_order m.shuffle.order m.top))
move_change max_stack insn frame after m below = record {
  whole = ap (kinds_after false) m.whole ∙ kinds_join false m.below m.top below;
  takes = ap (λ (s : Option Shuffle). option_map_or (λ (shuffle : Shuffle). shuffle.count) s (width_of (cells_taken insn.op insn.arg))) m.moves ∙ sym m.count ∙ sym (kinds_long false m.top);
  gives = ap (λ (s : Option Shuffle). option_map_or (λ (shuffle : Shuffle). length shuffle.order) s (width_of (cells_given insn.op insn.arg))) m.moves
      ∙ sym (length-map m.shuffle.order (λ (place : ℕ). slice_index_or m.top place Top)) ∙ sym (kinds_long false (in_order m.shuffle.order m.top));
}

moved_given : (max_stack : ℕ) (insn : Insn) (frame after : Frame) → (m : IsMoveTyping max_stack frame insn after) → are_formed false m.below ≡ true
    → AreGiven insn (kinds_of frame) (kinds_after false (in_order m.shuffle.order m.top))
moved_given max_stack insn frame after m below n kind e =
    let order : List ℕ = m.shuffle.order in
    let own : slice_get (map (kind_of true) (in_order order m.top)) n ≡ Some kind = ap (λ (ks : List WordKind). slice_get ks n) (sym (whole_kinds false (in_order order m.top) m.values_after)) ∙ e in
    let moved = moved_from order m.top n kind own in
    let bounded : list_all (is_below m.shuffle.count) order ≡ true = row_passes is_bounded shuffles insn.op m.shuffle all_bounded m.moves in
    let small : ltb moved.from m.shuffle.count ≡ true = one_bounded m.shuffle.count order n moved.from bounded moved.at in
    let lt : moved.from < length m.top = within moved.from m.shuffle.count (length m.top) small m.count in
    let depth : ℕ = length (kinds_of frame).stack in
    let change = move_change max_stack insn frame after m below in
    let under : words_below insn depth ≡ length (kinds_after false m.below) = below_is insn (kinds_of frame) (kinds_after false m.below) (kinds_after false m.top) (kinds_after false (in_order order m.top)) change in
    let there : slice_get (kinds_of frame).stack (words_below insn depth + moved.from) ≡ Some kind =
    ap (λ (l : List WordKind). slice_get l (words_below insn depth + moved.from)) change.whole
    ∙ get_right (kinds_after false m.below) (kinds_after false m.top) (words_below insn depth + moved.from) moved.from (ap (λ (k : ℕ). k + moved.from) under)
    ∙ ap (λ (ks : List WordKind). slice_get ks moved.from) (whole_kinds false m.top m.values)
    ∙ kind_there m.top moved.from lt ∙ ap Some moved.is in
    word_left insn (kind_given insn depth) (kinds_of frame) (AtStack (words_below insn depth + moved.from)) (AtStack (words_below insn depth + n)) kind (moved_left insn depth moved.from n m.shuffle m.moves moved.at) there
  where
    within : (from count long : ℕ) → ltb from count ≡ true → long ≡ count → from < long
    within from count long t e = grind (arith, nat_tests)

move_says : (max_stack : ℕ) (insn : Insn) (frame after : Frame) → is_store insn.op ≡ false → eqb insn.op IINC ≡ false → IsFormed frame → IsMoveTyping max_stack frame insn after → SaysNoMore (kinds_of after) (kinds_left insn (kinds_of frame))
move_says max_stack insn frame after store inc f m =
    let stack : are_formed false (m.below ++ m.top) ≡ true = ap (are_formed false) (sym m.whole) ∙ f.stack in
    let under = front false m.below m.top (whole_begins m.top m.values) stack in
    let words : List VType = in_order m.shuffle.order m.top in
    let below : List WordKind = kinds_after false m.below in
    let taken : List WordKind = kinds_after false m.top in
    let given : List WordKind = kinds_after false words in
    let change = move_change max_stack insn frame after m under in
    let says = stack_says insn (kinds_of frame) below taken given change (moved_given max_stack insn frame after m under) in
    let deep = depth_is insn (kinds_of frame) below taken given change in
    let whole : kinds_after false after.stack ≡ below ++ given = ap (kinds_after false) m.stack ∙ kinds_join false m.below words under in
    let locals : SaysOnly (kinds_after false after.locals) (kinds_left insn (kinds_of frame)).locals =
    subst (λ (l : List VType). SaysOnly (kinds_after false l) (kinds_left insn (kinds_of frame)).locals) (sym m.locals) (all_stay insn (kinds_of frame) (none_written insn store inc)) in
    record {
      locals = locals;
      stack = subst (λ (ks : List WordKind). SaysOnly ks (kinds_left insn (kinds_of frame)).stack) (sym whole) says;
      depth = ap length whole ∙ sym deep;
    }

-- ---- all instructions

pub step_says : (insn : Insn) (frame after : Frame) → HasOwnOperands insn → IsFormed frame → IsStepOf insn frame after → SaysNoMore (kinds_of after) (kinds_left insn (kinds_of frame))
step_says insn frame after own f (by_cells step) = cell_says insn frame after own f step
step_says insn frame after own f (by_replacing between step r) =
    no_more_through (kinds_of after) (kinds_of between) (kinds_left insn (kinds_of frame)) (replaced_says between after (cell_formed insn frame between step f) r) (cell_says insn frame between own f step)
step_says insn frame after own f (by_moving max_stack takes reads store inc m) = move_says max_stack insn frame after store inc f m
