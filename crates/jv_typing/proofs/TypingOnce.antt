-- A frame and an instruction lead to at most one frame.
use Rattle.std.proofs.Common.{◌≡◌, ℕ, ◌+◌, Bool, true, false, List, [], ◌∷◌, ◌++◌, length, take, drop, Some, refl, sym, ap, ◌∙◌, subst, arith}
use Rattle.std.specs.Prelude.{◌&&◌}
use Rattle.std.specs.List.{flat_map}
use Rattle.std.specs.Ordering.{nat_cmp}
use Rattle.std.specs.declared.cmp.Ordering.{Ordering}
use Rattle.std.specs.declared.cmp.Ordering.TheVariants.{Less, Equal, Greater}
use Rattle.std.proofs.lemmas.Bool.{and_parts}
use Rattle.std.proofs.lemmas.List.{length-append}
use Rattle.std.proofs.Math.Seq.{take-append_seam, drop-append_seam}
use Rattle.jv_table.specs.Rows.{row_of}
use Rattle.jv_table.specs.CodeRows.{OpForm, opcode_rows}
use Rattle.jv_table.specs.declared.code_tables.Cell.{Cell}
use Rattle.jv_table.specs.declared.code_tables.Cell.TheVariants.{Int, Float, Long, Double, Ref, Null}
use Rattle.jv_table.specs.declared.code_tables.Kind.{Kind}
use Rattle.jv_table.specs.declared.code_tables.Kind.TheVariants as kinds
use Rattle.jv_table.specs.declared.code_tables.Form.{Form}
use Rattle.jv_types.specs.declared.instruction.Const.{Const}
use Rattle.jv_types.specs.declared.instruction.Const.TheVariants as consts
use Rattle.jv_types.specs.declared.instruction.Arg.{Arg}
use Rattle.jv_types.specs.declared.instruction.Arg.TheVariants as args
use Rattle.jv_types.specs.declared.instruction.Insn.{Insn}
use Rattle.jv_types.specs.declared.frames.VType.{VType}
use Rattle.jv_types.specs.declared.frames.Frame.{Frame}
use Rattle.jv_insn.specs.Forms.{is_category_2}
use Rattle.jv_insn.specs.Effects.{Shuffle, effect_of, op_row, row_gives, const_cell, cells_given, is_store, local_of}
use Rattle.jv_insn.specs.Kinds.{HoldsCell, HoldsCells, EndsWithCells, cell_words}
use Rattle.jv_typing.specs.Typing.{is_load_two_form, has_operands, IsWordInsn, AreStored, StoresWhere, halved, IsWordTyping, IsMoveTyping, in_order}

-- ---- lists that are parted at the same place

pub record SameParts {X : Type 0} (a b c d : List X) : Type 0 where
  pub first : a ≡ c
  pub second : b ≡ d

pub same_parts : {X : Type 0} (a b c d : List X) → a ++ b ≡ c ++ d → length a ≡ length c → SameParts a b c d
same_parts a b c d e n =
    let first : a ≡ c = sym (take-append_seam a b) ∙ ap (take (length a)) e ∙ ap (λ (k : ℕ). take k (c ++ d)) n ∙ take-append_seam c d in
    let second : b ≡ d = sym (drop-append_seam a b) ∙ ap (drop (length a)) e ∙ ap (λ (k : ℕ). drop k (c ++ d)) n ∙ drop-append_seam c d in
    record { first = first; second = second }

-- the same where their ends are equally long
pub same_ends : {X : Type 0} (a b c d : List X) → a ++ b ≡ c ++ d → length b ≡ length d → SameParts a b c d
same_ends a b c d e n =
    let whole : length (a ++ b) ≡ length (c ++ d) = ap length e in
    let left : length (a ++ b) ≡ length a + length b = length-append a b in
    let right : length (c ++ d) ≡ length c + length d = length-append c d in
    same_parts a b c d e (omega arith)

-- ---- cells

-- as many words hold a cell
pub cell_long : (cell : Cell) (words : List VType) → HoldsCell cell words → length words ≡ length (cell_words cell)
cell_long Int words h = rw h refl
cell_long Float words h = rw h refl
cell_long Long words h = rw h refl
cell_long Double words h = rw h refl
cell_long Ref words h = rw h.1.0 refl
cell_long Null words h = rw h refl

pub cells_long : (cells : List Cell) (words : List VType) → HoldsCells cells words → length words ≡ length (flat_map cell_words cells)
cells_long [] words h = rw h refl
cells_long (cell ∷ cells) words h =
    let first = h.0 in
    let rest = h.1.0 in
    let parts = h.1.1 in
    ap length parts.0 ∙ length-append first rest ∙ both (cell_long cell first parts.1) (cells_long cells rest parts.2) ∙ sym (length-append (cell_words cell) (flat_map cell_words cells))
  where
    both : {m n k l : ℕ} → m ≡ n → k ≡ l → m + k ≡ n + l
    both e f = omega arith

-- the words that hold cells at the top of a stack are the same ones
pub same_tops : (cells : List Cell) (stack : List VType) (a b : EndsWithCells cells stack) → SameParts a.below a.top b.below b.top
same_tops cells stack a b =
    same_ends a.below a.top b.below b.top (sym a.whole ∙ b.whole) (cells_long cells a.top a.holds ∙ sym (cells_long cells b.top b.holds))

-- ---- cells of numbers

-- the cell of a number
abbrev pub is_number : Cell → Bool
is_number Ref = false
is_number Null = false
is_number _ = true

abbrev pub are_numbers : List Cell → Bool
are_numbers [] = true
are_numbers (cell ∷ cells) = is_number cell && are_numbers cells

-- a number's words are the same ones
one_number : (cell : Cell) (a b : List VType) → is_number cell ≡ true → HoldsCell cell a → HoldsCell cell b → a ≡ b
one_number Int a b is h i = cc
one_number Float a b is h i = cc
one_number Long a b is h i = cc
one_number Double a b is h i = cc
one_number Ref a b is h i = absurd cc
one_number Null a b is h i = absurd cc

pub one_numbers : (cells : List Cell) (a b : List VType) → are_numbers cells ≡ true → HoldsCells cells a → HoldsCells cells b → a ≡ b
one_numbers [] a b are h i = cc
one_numbers (cell ∷ cells) a b are h i =
    let parts = and_parts (is_number cell) (are_numbers cells) are in
    let first = one_number cell h.0 i.0 parts.0 h.1.1.1 i.1.1.1 in
    let rest = one_numbers cells h.1.0 i.1.0 parts.1 h.1.1.2 i.1.1.2 in
    let left : a ≡ h.0 ++ h.1.0 = h.1.1.0 in
    let right : b ≡ i.0 ++ i.1.0 = i.1.1.0 in
    cc

-- ---- rows of the opcodes that work on words

abbrev pub row_numbers : OpForm → Bool
row_numbers row = by_kind row.kind
  where
    by_kind : Kind → Bool
    by_kind kinds.Word = are_numbers row.gives
    by_kind kinds.Refs = true
    by_kind kinds.Outside = true

abbrev rows_numbers : List (ℕ × OpForm) → Bool
rows_numbers [] = true
rows_numbers (row ∷ rows) = row_numbers row.1 && rows_numbers rows

all_numbers : rows_numbers opcode_rows ≡ true
unfolding opcode_rows
all_numbers = refl

found_numbers : (rows : List (ℕ × OpForm)) → rows_numbers rows ≡ true → (op : ℕ) (row : OpForm) → row_of nat_cmp op rows ≡ Some row → row_numbers row ≡ true
found_numbers [] n op found e = absurd cc
found_numbers (row ∷ rows) n op found e =
    let parts = and_parts (row_numbers row.1) (rows_numbers rows) n in
    by_head (nat_cmp op row.0) refl parts.0 (found_numbers rows parts.1 op found)
  where
    by_head : (r : Ordering) → nat_cmp op row.0 ≡ r → row_numbers row.1 ≡ true → (row_of nat_cmp op rows ≡ Some found → row_numbers found ≡ true) → row_numbers found ≡ true
    by_head Less c own more = more (rw c at e)
    by_head Equal c own more =
        let is : Some row.1 ≡ Some found = rw c at e in
        let it : row.1 ≡ found = cc in
        subst (λ (r : OpForm). row_numbers r ≡ true) it own
    by_head Greater c own more = more (rw c at e)

word_row_numbers : (row : OpForm) → row.kind ≡ kinds.Word → row_numbers row ≡ true → are_numbers row.gives ≡ true
word_row_numbers row e n = rw e at n

-- the number that a load of two words gives
category_2_is_number : (constant : Const) → is_category_2 constant ≡ true → is_number (const_cell constant) ≡ true
category_2_is_number (consts.Long value) two = refl
category_2_is_number (consts.Double bits) two = refl
category_2_is_number (consts.Int value) two = absurd cc
category_2_is_number (consts.Float bits) two = absurd cc
category_2_is_number consts.Text two = absurd cc
category_2_is_number (consts.Class type) two = absurd cc
category_2_is_number consts.Handle two = absurd cc
category_2_is_number consts.MethodKind two = absurd cc

-- what the operands let be given, where they are those of words
by_operands : (form : Form) (op : ℕ) (arg : Arg) → has_operands form arg ≡ true → are_numbers (row_gives (op_row op)) ≡ true → are_numbers (cells_given op arg) ≡ true
by_operands form op args.Nothing h n = n
by_operands form op (args.Local local) h n = n
by_operands form op (args.Small value) h n = n
by_operands form op (args.Inc local by) h n = n
by_operands form op (args.Class type) h n = n
by_operands form op args.Dynamic h n = n
by_operands form op (args.NewPrim prim) h n = n
by_operands form op (args.Jump target) h n = n
by_operands form op (args.Table default low targets) h n = n
by_operands form op (args.Lookup default cases) h n = n
by_operands form op (args.Constant constant) h n =
    let two = and_parts (is_category_2 constant) (is_load_two_form form) h in
    let number = category_2_is_number constant two.0 in
    rw number refl
by_operands form op (args.Field field) h n = absurd cc
by_operands form op (args.Method method) h n = absurd cc
by_operands form op (args.Multi type dims) h n = absurd cc

-- an instruction that works on words gives numbers alone
pub gives_numbers : (insn : Insn) → IsWordInsn insn → are_numbers (effect_of insn).gives ≡ true
gives_numbers insn is =
    let row_is = word_row_numbers is.row is.half (found_numbers opcode_rows all_numbers insn.op is.row is.stands) in
    by_operands is.row.form insn.op insn.arg is.operands (rw is.stands row_is)

-- ---- typing

-- what a store leaves
pub one_store : (local : ℕ) (words locals a b : List VType) → AreStored local words locals a → AreStored local words locals b → a ≡ b
one_store local words locals a b x y =
    let before = same_parts x.before (x.lost ++ x.behind) y.before (y.lost ++ y.behind) (sym x.whole ∙ y.whole) (x.place ∙ sym y.place) in
    let behind = same_parts x.lost x.behind y.lost y.behind before.second (x.as_many ∙ sym y.as_many) in
    x.left ∙ ap (λ (front : List VType). halved front ++ (words ++ x.behind)) before.first ∙ ap (λ (end : List VType). halved y.before ++ (words ++ end)) behind.second ∙ sym y.left

one_locals : (stores : Bool) (local : ℕ) (words others locals a b : List VType) → words ≡ others → StoresWhere stores local words locals a → StoresWhere stores local others locals b → a ≡ b
one_locals true local words others locals a b e x y =
    one_store local words locals a b x (subst (λ (ws : List VType). AreStored local ws locals b) (sym e) y)
one_locals false local words others locals a b e x y = x ∙ sym y

pub one_frame : (a b : Frame) → a.locals ≡ b.locals → a.stack ≡ b.stack → a.this_uninit ≡ b.this_uninit → a ≡ b
one_frame a b e f g =
    ap (λ (locals : List VType). with_parts locals a.stack a.this_uninit) e
    ∙ ap (λ (stack : List VType). with_parts b.locals stack a.this_uninit) f
    ∙ ap (λ (flag : Bool). with_parts b.locals b.stack flag) g
  where
    with_parts : List VType → List VType → Bool → Frame
    with_parts locals stack flag = record { locals = locals; stack = stack; this_uninit = flag }

pub one_word_typing : (max_stack : ℕ) (frame : Frame) (insn : Insn) (a b : Frame) → IsWordTyping max_stack frame insn a → IsWordTyping max_stack frame insn b → a ≡ b
one_word_typing max_stack frame insn a b h k =
    let x = h.typing in
    let y = k.typing in
    let parts = same_tops (effect_of insn).takes frame.stack x.takes y.takes in
    let given = one_numbers (effect_of insn).gives x.given y.given (gives_numbers insn h.is_word) x.gives y.gives in
    let locals = one_locals (is_store insn.op) (local_of insn.op insn.arg) x.takes.top y.takes.top frame.locals a.locals b.locals parts.second x.locals y.locals in
    let stack = x.stack ∙ ap (λ (below : List VType). below ++ x.given) parts.first ∙ ap (λ (end : List VType). y.takes.below ++ end) given ∙ sym y.stack in
    one_frame a b locals stack (x.flag ∙ sym y.flag)

pub one_move_typing : (max_stack : ℕ) (frame : Frame) (insn : Insn) (a b : Frame) → IsMoveTyping max_stack frame insn a → IsMoveTyping max_stack frame insn b → a ≡ b
one_move_typing max_stack frame insn a b x y =
    let some : Some x.shuffle ≡ Some y.shuffle = sym x.moves ∙ y.moves in
    let shuffle : x.shuffle ≡ y.shuffle = cc in
    let parts = same_ends x.below x.top y.below y.top (sym x.whole ∙ y.whole) (x.count ∙ ap (λ (s : Shuffle). s.count) shuffle ∙ sym y.count) in
    let stack = x.stack ∙ ap (λ (below : List VType). below ++ in_order x.shuffle.order x.top) parts.first
    ∙ ap (λ (s : Shuffle). y.below ++ in_order s.order x.top) shuffle
    ∙ ap (λ (top : List VType). y.below ++ in_order y.shuffle.order top) parts.second ∙ sym y.stack in
    one_frame a b (x.locals ∙ sym y.locals) stack (x.flag ∙ sym y.flag)
