-- What the parts of a step make of it.
use Rattle.std.proofs.Common.{◌≡◌, ℕ, ◌<◌, ◌≤◌, true, List, [], ◌∷◌, ◌++◌, length, drop, All, Result, Err, refl, sym, ap, ◌∙◌, subst, arith}
use Rattle.std.proofs.lemmas.Bool.{and_parts}
use Rattle.jv_table.specs.declared.code_tables.Cell.{Cell}
use Rattle.jv_table.specs.declared.code_tables.Cell.TheVariants.{Int, Float, Long, Double, Ref, Null}
use Rattle.jv_types.specs.declared.instruction.Insn.{Insn}
use Rattle.jv_types.specs.declared.frames.VType.{VType}
use Rattle.jv_types.specs.declared.frames.Frame.{Frame}
use Rattle.jv_insn.specs.Effects.{effect_of}
use Rattle.jv_insn.specs.Kinds.{HoldsCell, HoldsCells, EndsWithCells}
use Rattle.jv_typing.specs.Typing.{LocalsAfter, IsWordTyping}
use Rattle.jv_typing.proofs.TypingOnce.{SameParts, is_number, are_numbers, one_numbers, gives_numbers, same_tops}
use Rattle.jv_verify_words.specs.declared.insns.WordCells.{WordCells}
use Rattle.jv_typing.specs.Parts.{LeavesCells}
use Rattle.jv_typing.proofs.Popping.{taken_behind}
use Rattle.jv_verify_words.specs.Parts.{ReadHolds, number_words, numbers_words, AreCellsOf}

-- ---- numbers

hold_number : (cell : Cell) → is_number cell ≡ true → HoldsCell cell (number_words cell)
hold_number Int is = refl
hold_number Float is = refl
hold_number Long is = refl
hold_number Double is = refl
hold_number Ref is = absurd cc
hold_number Null is = absurd cc

hold_numbers : (cells : List Cell) → are_numbers cells ≡ true → HoldsCells cells (numbers_words cells)
hold_numbers [] are = refl
hold_numbers (cell ∷ cells) are =
    let parts = and_parts (is_number cell) (are_numbers cells) are in
    (number_words cell, (numbers_words cells, (refl, hold_number cell parts.0, hold_numbers cells parts.1)))

-- the words of the cells that an instruction gives
given_words : (insn : Insn) (cells : WordCells) → AreCellsOf insn cells → HoldsCells (effect_of insn).gives (numbers_words cells.gives.now)
given_words insn cells are =
    subst (λ (gives : List Cell). HoldsCells (effect_of insn).gives (numbers_words gives)) (sym are.gives)
    (hold_numbers (effect_of insn).gives (gives_numbers insn are.is_word))

-- ---- what was taken

-- the cells that are left by their own words
pub ends_of : (insn : Insn) (cells : WordCells) (stack below : List VType) → AreCellsOf insn cells → LeavesCells cells.takes.now stack below → EndsWithCells (effect_of insn).takes stack
ends_of insn cells stack below are leaves = record {
  below = below;
  top = leaves.top;
  whole = leaves.whole;
  holds = subst (λ (takes : List Cell). HoldsCells takes leaves.top) are.takes leaves.holds;
}

pub leaves_of : (insn : Insn) (cells : WordCells) (stack : List VType) → AreCellsOf insn cells → (ends : EndsWithCells (effect_of insn).takes stack) → LeavesCells cells.takes.now stack ends.below
leaves_of insn cells stack are ends = record {
  top = ends.top;
  whole = ends.whole;
  holds = subst (λ (takes : List Cell). HoldsCells takes ends.top) (sym are.takes) ends.holds;
}

-- ---- the step

pub step_typed : (max_stack : ℕ) (frame : Frame) (insn : Insn) (cells : WordCells) (below stack locals : List VType) → AreCellsOf insn cells
    → LeavesCells cells.takes.now frame.stack below → All (ReadHolds frame.locals) (effect_of insn).reads
    → stack ≡ below ++ numbers_words cells.gives.now → length stack ≤ max_stack
    → LocalsAfter insn (drop (length below) frame.stack) frame.locals locals
    → IsWordTyping max_stack frame insn (record { locals = locals; stack = stack; this_uninit = frame.this_uninit })
unfolding ends_of
step_typed max_stack frame insn cells below stack locals are leaves reads is room after = record {
  is_word = are.is_word;
  typing = record {
    takes = ends_of insn cells frame.stack below are leaves;
    reads = reads;
    given = numbers_words cells.gives.now;
    gives = given_words insn cells are;
    stack = is;
    room = room;
    locals = subst (λ (taken : List VType). LocalsAfter insn taken frame.locals locals) (sym (taken_behind cells.takes.now frame.stack below leaves)) after;
    flag = refl;
  };
}

-- what a typing takes and leaves is what the step does
same_as : (max_stack : ℕ) (frame : Frame) (insn : Insn) (cells : WordCells) (below : List VType) (after : Frame) → (are : AreCellsOf insn cells)
    → (leaves : LeavesCells cells.takes.now frame.stack below) → (h : IsWordTyping max_stack frame insn after) → SameParts h.typing.takes.below h.typing.takes.top below leaves.top
unfolding ends_of
same_as max_stack frame insn cells below after are leaves h =
    same_tops (effect_of insn).takes frame.stack h.typing.takes (ends_of insn cells frame.stack below are leaves)

pub no_room : (max_stack : ℕ) (frame : Frame) (insn : Insn) (cells : WordCells) (below : List VType) → AreCellsOf insn cells
    → LeavesCells cells.takes.now frame.stack below → max_stack < length (below ++ numbers_words cells.gives.now)
    → (after : Frame) → IsWordTyping max_stack frame insn after → ⊥
no_room max_stack frame insn cells below are leaves more after h =
    let parts = same_as max_stack frame insn cells below after are leaves h in
    let given = one_numbers (effect_of insn).gives h.typing.given (numbers_words cells.gives.now) (gives_numbers insn are.is_word) h.typing.gives (given_words insn cells are) in
    let stack : after.stack ≡ below ++ numbers_words cells.gives.now =
    h.typing.stack ∙ ap (λ (ws : List VType). ws ++ h.typing.given) parts.first ∙ ap (λ (ws : List VType). below ++ ws) given in
    let long : length after.stack ≡ length (below ++ numbers_words cells.gives.now) = ap length stack in
    let room : length after.stack ≤ max_stack = h.typing.room in
    absurd (omega arith)

pub no_store : (max_stack : ℕ) (frame : Frame) (insn : Insn) (cells : WordCells) (below : List VType) → AreCellsOf insn cells
    → LeavesCells cells.takes.now frame.stack below → ((after : List VType) → LocalsAfter insn (drop (length below) frame.stack) frame.locals after → ⊥)
    → (after : Frame) → IsWordTyping max_stack frame insn after → ⊥
no_store max_stack frame insn cells below are leaves none after h =
    let parts = same_as max_stack frame insn cells below after are leaves h in
    none after.locals (subst (λ (taken : List VType). LocalsAfter insn taken frame.locals after.locals) (parts.second ∙ taken_behind cells.takes.now frame.stack below leaves) h.typing.locals)

-- ---- errors that are handed on

pub same_error : {A B E : Type 0} (r : Result A E) (own given other : E) → r ≡ Err own → own ≡ given → r ≡ Err other → ◌≡◌ {A = Result B E} (Err given) (Err other)
same_error {A = A} {E = E} r own given other e f g =
    let i : ◌≡◌ {A = Result A E} (Err own) (Err other) = sym e ∙ g in
    let j : own ≡ other = cc in
    ap Err (sym f ∙ j)
