-- What each instruction does to a frame, by cells: it takes and gives cells, or moves words, and a constructor
-- or a `new` also puts types in place of others.
use Rattle.std.proofs.Common.{◌≡◌, ℕ, Bool, true, false, cond, eqb, not, List, [], ◌∷◌, ◌++◌, take, drop, Option, Some, None, slice_get, zero, suc, refl, sym, ap, ◌∙◌, subst, ◌⊎◌, inl, inr, arith}
use Rattle.std.specs.Prelude.{◌&&◌, ◌||◌, All, map, is_none}
use Rattle.std.specs.List.{list_all}
use Rattle.std.specs.Ordering.{nat_cmp}
use Rattle.std.proofs.lemmas.Bool.{and_parts}
use Rattle.std.proofs.lemmas.List.{append-nil}
use Rattle.jv_lists.proofs.Tests.{not_true, where_true, none_is}
use Rattle.jv_table.specs.Rows.{row_of}
use Rattle.jv_table.specs.CodeRows.{OpForm, opcode_rows}
use Rattle.jv_table.specs.declared.ops.TheConstants.{IINC}
use Rattle.jv_table.specs.declared.code_tables.Cell.{Cell}
use Rattle.jv_table.specs.declared.code_tables.Cell.TheVariants.{Int, Float, Long, Double, Ref, Null}
use Rattle.jv_table.specs.declared.code_tables.Kind.{Kind}
use Rattle.jv_table.specs.declared.code_tables.Kind.TheVariants as kinds
use Rattle.jv_types.specs.declared.desc.PrimType.TheVariants as prims
use Rattle.jv_types.specs.declared.desc.RefType.{RefType}
use Rattle.jv_types.specs.declared.desc.Desc.{Desc}
use Rattle.jv_types.specs.declared.desc.Desc.TheVariants as descs
use Rattle.jv_types.specs.declared.references.FieldRef.{FieldRef}
use Rattle.jv_types.specs.declared.references.MethodRef.{MethodRef}
use Rattle.jv_types.specs.declared.shapes.Shape.{Shape}
use Rattle.jv_types.specs.declared.instruction.Const.{Const}
use Rattle.jv_types.specs.declared.instruction.Const.TheVariants as consts
use Rattle.jv_types.specs.declared.instruction.Arg.{Arg}
use Rattle.jv_types.specs.declared.instruction.Arg.TheVariants as args
use Rattle.jv_types.specs.declared.instruction.Insn.{Insn}
use Rattle.jv_types.specs.declared.frames.VType.{VType, Top, Integer}
use Rattle.jv_types.specs.declared.frames.VType as types
use Rattle.jv_types.specs.declared.frames.Frame.{Frame}
use Rattle.jv_resolve.specs.Members.{init_name}
use Rattle.jv_insn.specs.Effects.{effect_of, op_row, shuffle_of, is_load, is_store, local_of, cells_taken, cells_given, locals_read, decides_cells, puts_field, desc_cell, const_cell, result_cells}
use Rattle.jv_insn.specs.Forms.{HasOwnOperands, HasRowOperands}
use Rattle.jv_insn.specs.Kinds.{HoldsCell, HoldsCells, EndsWithCells, is_reference, is_wide}
use Rattle.jv_insn.specs.KindSafe.{LocalHolds, HasEffect}
use Rattle.jv_insn.proofs.Tables.{row_passes, row_cells_taken, row_cells_given}
use Rattle.jv_frames.specs.Types.{type_words, in_words, ref_vtype, desc_vtype}
use Rattle.jv_typing.specs.declared.rules.RefRule.{RefRule}
use Rattle.jv_typing.specs.declared.rules.RefRule.TheVariants as rules
use Rattle.jv_typing.specs.Rules.{ref_rules}
use Rattle.jv_typing.specs.Typing.{StoresWhere, LocalsAfter, IsWordTyping, IsMoveTyping}
use Rattle.jv_typing.specs.Transitions.{AreReplaced}
use Rattle.jv_typing.specs.References.{Site, Goes, string_type, class_type, const_type, result_types, LoadsItem, IsInitialised, this, made, IsInitTyping, IsSpecialTyping, IsNewTyping, IsLoadRefTyping, IsLoadTyping, IsStoreTyping, IsPutTyping, IsOwnPutTyping, HasRuleTyping}
use Rattle.jv_typing.specs.Steps.{StepTyping, words, references}
use Rattle.jv_typing.proofs.TypingOnce.{gives_numbers}
use Rattle.jv_typing_laws.proofs.Tests.{where_false}
use Rattle.jv_typing_laws.specs.Formed.{holds_references, are_formed, IsFormed}
use Rattle.jv_typing_laws.proofs.OneFrame.{initialised_uninit}
use Rattle.jv_typing_laws.proofs.FormedWords.{behind, in_words_formed, reference_formed, reference_one_word, ref_vtype_reference, ref_vtype_holds, array_holds, array_items, array_is_reference, desc_holds, numbers_formed, some_word_holds, head_parts, MayReplace}

-- ---- the steps

-- an instruction takes its cells and gives its cells, and moves no words
pub record IsCellStep (insn : Insn) (frame after : Frame) : Type 0 where
  pub takes : EndsWithCells (effect_of insn).takes frame.stack
  pub reads : All (LocalHolds frame) (effect_of insn).reads
  pub given : List VType
  pub gives : HoldsCells (effect_of insn).gives given
  pub formed : are_formed false given ≡ true
  pub stack : after.stack ≡ takes.below ++ given
  pub locals : LocalsAfter insn takes.top frame.locals after.locals
  pub alone : shuffle_of insn.op ≡ None

-- types are put in place of one that isn't initialised, on the stack or not
pub record IsReplacing (before after : Frame) : Type 0 where
  pub old : VType
  pub new : VType
  pub may : MayReplace old new
  pub locals : AreReplaced old new before.locals after.locals
  pub stack : AreReplaced old new before.stack after.stack ⊎ (after.stack ≡ before.stack)

-- an instruction does one of these three
pub data IsStepOf (insn : Insn) (frame after : Frame) : Type 0 where
  by_cells : IsCellStep insn frame after → IsStepOf insn frame after
  by_replacing : (between : Frame) → IsCellStep insn frame between → IsReplacing between after → IsStepOf insn frame after
  by_moving : (max_stack : ℕ) → (effect_of insn).takes ≡ [] → (effect_of insn).reads ≡ [] → is_store insn.op ≡ false → eqb insn.op IINC ≡ false → IsMoveTyping max_stack frame insn after → IsStepOf insn frame after

-- ---- tables

abbrev is_effect_kind : Kind → Bool
is_effect_kind kinds.Word = true
is_effect_kind kinds.Refs = true
is_effect_kind kinds.Outside = false

abbrev has_effect : Option OpForm → Bool
has_effect None = false
has_effect (Some row) = is_effect_kind row.kind

effect_is : (o : Option OpForm) → has_effect o ≡ true → HasEffect o
effect_is None e = absurd cc
effect_is (Some row) e = λ is. let wrong : is_effect_kind kinds.Outside ≡ true = ap is_effect_kind (sym is) ∙ e in absurd cc

abbrev is_move : RefRule → Bool
is_move rules.Move = true
is_move _ = false

abbrev is_load_rule : RefRule → Bool
is_load_rule rules.Load = true
is_load_rule _ = false

abbrev is_store_rule : RefRule → Bool
is_store_rule rules.Store = true
is_store_rule _ = false

abbrev rule_known : ℕ × RefRule → Bool
rule_known row = has_effect (op_row row.0)

all_known : list_all rule_known ref_rules ≡ true
unfolding opcode_rows
all_known = refl

abbrev rule_alone : ℕ × RefRule → Bool
rule_alone row = is_move row.1 || is_none (shuffle_of row.0)

all_alone : list_all rule_alone ref_rules ≡ true
all_alone = refl

abbrev rule_no_load : ℕ × RefRule → Bool
rule_no_load row = is_load_rule row.1 || not (is_load row.0)

all_no_load : list_all rule_no_load ref_rules ≡ true
all_no_load = refl

abbrev rule_load : ℕ × RefRule → Bool
rule_load row = not (is_load_rule row.1) || is_load row.0

all_load : list_all rule_load ref_rules ≡ true
all_load = refl

abbrev rule_no_store : ℕ × RefRule → Bool
rule_no_store row = is_store_rule row.1 || not (is_store row.0)

all_no_store : list_all rule_no_store ref_rules ≡ true
all_no_store = refl

abbrev rule_store : ℕ × RefRule → Bool
rule_store row = not (is_store_rule row.1) || is_store row.0

all_store : list_all rule_store ref_rules ≡ true
all_store = refl

abbrev rule_no_inc : ℕ × RefRule → Bool
rule_no_inc row = not (eqb row.0 IINC)

all_no_inc : list_all rule_no_inc ref_rules ≡ true
all_no_inc = refl

-- cells that are told apart
abbrev same_cell : Cell → Cell → Bool
same_cell Int Int = true
same_cell Float Float = true
same_cell Long Long = true
same_cell Double Double = true
same_cell Ref Ref = true
same_cell Null Null = true
same_cell _ _ = false

abbrev same_cells : List Cell → List Cell → Bool
same_cells [] [] = true
same_cells (a ∷ xs) (b ∷ ys) = same_cell a b && same_cells xs ys
same_cells _ _ = false

same_cell_is : (a b : Cell) → same_cell a b ≡ true → a ≡ b
same_cell_is Int Int e = refl
same_cell_is Float Float e = refl
same_cell_is Long Long e = refl
same_cell_is Double Double e = refl
same_cell_is Ref Ref e = refl
same_cell_is Null Null e = refl
same_cell_is _ _ e = absurd cc

same_cells_are : (xs ys : List Cell) → same_cells xs ys ≡ true → xs ≡ ys
same_cells_are [] [] e = refl
same_cells_are [] (b ∷ ys) e = absurd cc
same_cells_are (a ∷ xs) [] e = absurd cc
same_cells_are (a ∷ xs) (b ∷ ys) e =
    let parts = and_parts (same_cell a b) (same_cells xs ys) e in
    let first = same_cell_is a b parts.0 in
    let rest = same_cells_are xs ys parts.1 in
    λ i. first i ∷ rest i

-- the cells that a row gives and takes where the operands don't decide them
abbrev row_gives_these : List Cell → Option OpForm → Bool
row_gives_these cells None = false
row_gives_these cells (Some row) = not (decides_cells row.form) && same_cells row.gives cells

abbrev row_takes_these : List Cell → Option OpForm → Bool
row_takes_these cells None = false
row_takes_these cells (Some row) = not (decides_cells row.form) && same_cells row.takes cells

-- those that an instruction of each rule gives, and those that some take
abbrev rule_gives : RefRule → Option (List Cell)
rule_gives rules.PushNull = Some (Null ∷ [])
rule_gives rules.PushConstant = None
rule_gives rules.Load = Some (Ref ∷ [])
rule_gives rules.Store = Some []
rule_gives (rules.LoadItem prim) = Some (desc_cell (descs.Prim prim) ∷ [])
rule_gives rules.LoadSmall = Some (Int ∷ [])
rule_gives rules.LoadRef = Some (Ref ∷ [])
rule_gives (rules.StoreItem prim) = Some []
rule_gives rules.StoreSmall = Some []
rule_gives rules.StoreRef = Some []
rule_gives rules.Move = Some []
rule_gives rules.TakeRefs = Some []
rule_gives rules.ReturnValue = Some []
rule_gives rules.ReturnVoid = Some []
rule_gives rules.GetStatic = None
rule_gives rules.PutStatic = None
rule_gives rules.GetField = None
rule_gives rules.PutField = None
rule_gives rules.InvokeVirtual = None
rule_gives rules.InvokeSpecial = None
rule_gives rules.InvokeStatic = None
rule_gives rules.InvokeInterface = None
rule_gives rules.New = Some (Ref ∷ [])
rule_gives rules.NewArray = Some (Ref ∷ [])
rule_gives rules.NewRefArray = Some (Ref ∷ [])
rule_gives rules.ArrayLength = Some (Int ∷ [])
rule_gives rules.Throw = Some []
rule_gives rules.CheckCast = Some (Ref ∷ [])
rule_gives rules.InstanceOf = Some (Int ∷ [])
rule_gives rules.NewMultiArray = None

abbrev pub rule_takes : RefRule → Option (List Cell)
rule_takes rules.Load = Some []
rule_takes rules.LoadRef = Some (Ref ∷ Int ∷ [])
rule_takes rules.Move = Some []
rule_takes rules.ReturnVoid = Some []
rule_takes rules.New = Some []
rule_takes _ = None

abbrev gives_fit : Option (List Cell) → Option OpForm → Bool
gives_fit None row = true
gives_fit (Some cells) row = row_gives_these cells row

abbrev takes_fit : Option (List Cell) → Option OpForm → Bool
takes_fit None row = true
takes_fit (Some cells) row = row_takes_these cells row

abbrev rule_given : ℕ × RefRule → Bool
rule_given row = gives_fit (rule_gives row.1) (op_row row.0)

all_given : list_all rule_given ref_rules ≡ true
unfolding opcode_rows
all_given = refl

abbrev rule_taken : ℕ × RefRule → Bool
rule_taken row = takes_fit (rule_takes row.1) (op_row row.0)

all_taken : list_all rule_taken ref_rules ≡ true
unfolding opcode_rows
all_taken = refl

abbrev field_fits : ℕ → RefRule → Bool
field_fits op rules.GetStatic = not (puts_field op)
field_fits op rules.GetField = not (puts_field op)
field_fits op rules.PutStatic = puts_field op
field_fits op rules.PutField = puts_field op
field_fits op _ = true

abbrev rule_field : ℕ × RefRule → Bool
rule_field row = field_fits row.0 row.1

all_fields : list_all rule_field ref_rules ≡ true
all_fields = refl

-- ---- what the tables tell of an instruction

fixed_gives : (cells : List Cell) (op : ℕ) (arg : Arg) (o : Option OpForm) → op_row op ≡ o → HasRowOperands o arg → row_gives_these cells o ≡ true → cells_given op arg ≡ cells
fixed_gives cells op arg None e h t = absurd h
fixed_gives cells op arg (Some row) e h t =
    let parts = and_parts (not (decides_cells row.form)) (same_cells row.gives cells) t in
    row_cells_given op arg row e h (not_true (decides_cells row.form) parts.0) ∙ same_cells_are row.gives cells parts.1

fixed_takes : (cells : List Cell) (op : ℕ) (arg : Arg) (o : Option OpForm) → op_row op ≡ o → HasRowOperands o arg → row_takes_these cells o ≡ true → cells_taken op arg ≡ cells
fixed_takes cells op arg None e h t = absurd h
fixed_takes cells op arg (Some row) e h t =
    let parts = and_parts (not (decides_cells row.form)) (same_cells row.takes cells) t in
    row_cells_taken op arg row e h (not_true (decides_cells row.form) parts.0) ∙ same_cells_are row.takes cells parts.1

gives_of : (insn : Insn) (rule : RefRule) (cells : List Cell) → row_of nat_cmp insn.op ref_rules ≡ Some rule → HasOwnOperands insn → rule_gives rule ≡ Some cells → cells_given insn.op insn.arg ≡ cells
gives_of insn rule cells at own is =
    let fits : gives_fit (Some cells) (op_row insn.op) ≡ true = ap (λ (o : Option (List Cell)). gives_fit o (op_row insn.op)) (sym is) ∙ row_passes rule_given ref_rules insn.op rule all_given at in
    fixed_gives cells insn.op insn.arg (op_row insn.op) refl own fits

pub takes_of : (insn : Insn) (rule : RefRule) (cells : List Cell) → row_of nat_cmp insn.op ref_rules ≡ Some rule → HasOwnOperands insn → rule_takes rule ≡ Some cells → cells_taken insn.op insn.arg ≡ cells
takes_of insn rule cells at own is =
    let fits : takes_fit (Some cells) (op_row insn.op) ≡ true = ap (λ (o : Option (List Cell)). takes_fit o (op_row insn.op)) (sym is) ∙ row_passes rule_taken ref_rules insn.op rule all_taken at in
    fixed_takes cells insn.op insn.arg (op_row insn.op) refl own fits

-- an instruction that neither loads nor stores nor moves words
record IsPlain (insn : Insn) : Type 0 where
  alone : shuffle_of insn.op ≡ None
  no_store : is_store insn.op ≡ false
  no_reads : locals_read insn.op insn.arg ≡ []

reads_none : (insn : Insn) → is_load insn.op ≡ false → eqb insn.op IINC ≡ false → locals_read insn.op insn.arg ≡ []
reads_none insn load inc =
    ap (λ (b : Bool). cond b (map (λ (cell : Cell). (local_of insn.op insn.arg, cell)) (cells_given insn.op insn.arg)) (cond (eqb insn.op IINC) ((local_of insn.op insn.arg, Int) ∷ []) [])) load
    ∙ ap (λ (b : Bool). cond b ((local_of insn.op insn.arg, Int) ∷ []) []) inc

no_load_of : (insn : Insn) (rule : RefRule) → row_of nat_cmp insn.op ref_rules ≡ Some rule → is_load_rule rule ≡ false → is_load insn.op ≡ false
no_load_of insn rule at load = not_true (is_load insn.op) (where_false (is_load_rule rule) (not (is_load insn.op)) load (row_passes rule_no_load ref_rules insn.op rule all_no_load at))

no_store_of : (insn : Insn) (rule : RefRule) → row_of nat_cmp insn.op ref_rules ≡ Some rule → is_store_rule rule ≡ false → is_store insn.op ≡ false
no_store_of insn rule at store = not_true (is_store insn.op) (where_false (is_store_rule rule) (not (is_store insn.op)) store (row_passes rule_no_store ref_rules insn.op rule all_no_store at))

no_inc_of : (insn : Insn) (rule : RefRule) → row_of nat_cmp insn.op ref_rules ≡ Some rule → eqb insn.op IINC ≡ false
no_inc_of insn rule at = not_true (eqb insn.op IINC) (row_passes rule_no_inc ref_rules insn.op rule all_no_inc at)

alone_of : (insn : Insn) (rule : RefRule) → row_of nat_cmp insn.op ref_rules ≡ Some rule → is_move rule ≡ false → shuffle_of insn.op ≡ None
alone_of insn rule at move = none_is (shuffle_of insn.op) (where_false (is_move rule) (is_none (shuffle_of insn.op)) move (row_passes rule_alone ref_rules insn.op rule all_alone at))

plain_of : (insn : Insn) (rule : RefRule) → row_of nat_cmp insn.op ref_rules ≡ Some rule → is_move rule ≡ false → is_load_rule rule ≡ false → is_store_rule rule ≡ false → IsPlain insn
plain_of insn rule at move load store = record {
  alone = alone_of insn rule at move;
  no_store = no_store_of insn rule at store;
  no_reads = reads_none insn (no_load_of insn rule at load) (no_inc_of insn rule at);
}

pub rule_is_known : (insn : Insn) (rule : RefRule) → row_of nat_cmp insn.op ref_rules ≡ Some rule → HasEffect (op_row insn.op)
rule_is_known insn rule at = effect_is (op_row insn.op) (row_passes rule_known ref_rules insn.op rule all_known at)

-- ---- cells of types

pub reference_cell : (type : VType) → is_reference type ≡ true → HoldsCell Ref (type_words type)
reference_cell type r = (type, (reference_one_word type r, r))

pub desc_holds_cell : (desc : Desc) → HoldsCell (desc_cell desc) (type_words (desc_vtype desc))
desc_holds_cell (descs.Prim prims.Boolean) = refl
desc_holds_cell (descs.Prim prims.Char) = refl
desc_holds_cell (descs.Prim prims.Float) = refl
desc_holds_cell (descs.Prim prims.Double) = refl
desc_holds_cell (descs.Prim prims.Byte) = refl
desc_holds_cell (descs.Prim prims.Short) = refl
desc_holds_cell (descs.Prim prims.Int) = refl
desc_holds_cell (descs.Prim prims.Long) = refl
desc_holds_cell (descs.Ref type) = reference_cell (ref_vtype type) (ref_vtype_reference type)

one_cell : (cell : Cell) (type : VType) → HoldsCell cell (type_words type) → HoldsCells (cell ∷ []) (in_words (type ∷ []))
one_cell cell type h = (type_words type, ([], (refl, h, refl)))

one_holds : (type : VType) → holds_references type ≡ true → list_all holds_references (type ∷ []) ≡ true
one_holds type h = ap (λ (b : Bool). b && true) h

result_holds_cells : (result : Option Desc) → HoldsCells (result_cells result) (in_words (result_types result))
result_holds_cells None = refl
result_holds_cells (Some desc) = one_cell (desc_cell desc) (desc_vtype desc) (desc_holds_cell desc)

result_holds : (result : Option Desc) → list_all holds_references (result_types result) ≡ true
result_holds None = refl
result_holds (Some desc) = one_holds (desc_vtype desc) (desc_holds desc)

record IsConstType (const : Const) (type : VType) : Type 0 where
  cell : HoldsCell (const_cell const) (type_words type)
  holds : holds_references type ≡ true

const_is : (const : Const) (type : VType) → const_type const ≡ Some type → IsConstType const type
const_is (consts.Int value) type e = let same : types.Integer ≡ type = cc in subst (IsConstType (consts.Int value)) same (record { cell = refl; holds = refl })
const_is (consts.Float bits) type e = let same : types.Float ≡ type = cc in subst (IsConstType (consts.Float bits)) same (record { cell = refl; holds = refl })
const_is consts.Text type e = let same : string_type ≡ type = cc in subst (IsConstType consts.Text) same (record { cell = reference_cell string_type refl; holds = refl })
const_is (consts.Class of) type e = let same : class_type ≡ type = cc in subst (IsConstType (consts.Class of)) same (record { cell = reference_cell class_type refl; holds = refl })
const_is (consts.Long value) type e = absurd cc
const_is (consts.Double bits) type e = absurd cc
const_is consts.Handle type e = absurd cc
const_is consts.MethodKind type e = absurd cc

-- ---- steps that pop and push

none_read : (frame : Frame) (insn : Insn) → locals_read insn.op insn.arg ≡ [] → All (LocalHolds frame) (effect_of insn).reads
none_read frame insn e = subst (λ (reads : List (ℕ × Cell)). All (LocalHolds frame) reads) (sym e) (λ k d lt. absurd (omega arith))

kept : (insn : Insn) (taken locals after : List VType) → is_store insn.op ≡ false → after ≡ locals → LocalsAfter insn taken locals after
kept insn taken locals after e same = subst (λ (b : Bool). StoresWhere b (local_of insn.op insn.arg) taken locals after) (sym e) same

goes_step : (w : List Shape) (site : Site) (frame : Frame) (insn : Insn) (wanted given : List VType) (cells : List Cell) (after : Frame) → IsPlain insn → Goes w site frame insn wanted given after
    → cells_given insn.op insn.arg ≡ cells → HoldsCells cells (in_words given) → list_all holds_references given ≡ true → IsCellStep insn frame after
goes_step w site frame insn wanted given cells after plain h is holds refs_held = record {
  takes = h.pops.takes;
  reads = none_read frame insn plain.no_reads;
  given = in_words given;
  gives = subst (λ (cs : List Cell). HoldsCells cs (in_words given)) (sym is) holds;
  formed = in_words_formed given refs_held;
  stack = h.stack;
  locals = kept insn h.pops.takes.top frame.locals after.locals plain.no_store h.locals;
  alone = plain.alone;
}

goes_cells : (w : List Shape) (site : Site) (frame : Frame) (insn : Insn) (wanted given : List VType) (cells : List Cell) (after : Frame) → IsPlain insn → Goes w site frame insn wanted given after
    → cells_given insn.op insn.arg ≡ cells → HoldsCells cells (in_words given) → list_all holds_references given ≡ true → IsStepOf insn frame after
goes_cells w site frame insn wanted given gives after plain h is holds refs_held = by_cells (goes_step w site frame insn wanted given gives after plain h is holds refs_held)

-- one that pushes nothing, and one that pushes one value
goes_empty : (w : List Shape) (site : Site) (frame : Frame) (insn : Insn) (wanted : List VType) (after : Frame) → IsPlain insn → Goes w site frame insn wanted [] after → cells_given insn.op insn.arg ≡ [] → IsStepOf insn frame after
goes_empty w site frame insn wanted after plain h is = goes_cells w site frame insn wanted [] [] after plain h is refl refl

goes_one : (w : List Shape) (site : Site) (frame : Frame) (insn : Insn) (wanted : List VType) (type : VType) (cell : Cell) (after : Frame) → IsPlain insn → Goes w site frame insn wanted (type ∷ []) after
    → cells_given insn.op insn.arg ≡ cell ∷ [] → HoldsCell cell (type_words type) → holds_references type ≡ true → IsStepOf insn frame after
goes_one w site frame insn wanted type cell after plain h is holds refs_held =
    goes_cells w site frame insn wanted (type ∷ []) (cell ∷ []) after plain h is (one_cell cell type holds) (one_holds type refs_held)

-- ---- loads and stores

taken_one : (locals : List VType) (local : ℕ) (type : VType) → slice_get locals local ≡ Some type → take 1 (drop local locals) ≡ type ∷ []
taken_one [] local type e = absurd cc
taken_one (first ∷ locals) zero type e = let same : first ≡ type = cc in ap (λ (t : VType). t ∷ []) same
taken_one (first ∷ locals) (suc local) type e = taken_one locals local type e

pub one_ref : (type : VType) → is_reference type ≡ true → HoldsCells (Ref ∷ []) (type ∷ [])
one_ref type r = (type ∷ [], ([], (refl, (type, (refl, r)), refl)))

one_read : (frame : Frame) (local : ℕ) (cell : Cell) → LocalHolds frame (local, cell) → All (LocalHolds frame) ((local, cell) ∷ [])
one_read frame local cell h zero d lt = h
one_read frame local cell h (suc k) d lt = absurd (omega arith)

whole_nil : (stack : List VType) → stack ≡ stack ++ []
whole_nil stack = sym (append-nil stack)

load_step : (site : Site) (frame : Frame) (insn : Insn) (after : Frame) (rule : RefRule) → row_of nat_cmp insn.op ref_rules ≡ Some rule → HasOwnOperands insn → rule ≡ rules.Load → IsFormed frame → IsLoadTyping site frame insn after
    → IsCellStep insn frame after
load_step site frame insn after rule at own is formed h =
    let takes : cells_taken insn.op insn.arg ≡ [] = takes_of insn rule [] at own (ap rule_takes is) in
    let gives : cells_given insn.op insn.arg ≡ Ref ∷ [] = gives_of insn rule (Ref ∷ []) at own (ap rule_gives is) in
    let load : is_load insn.op ≡ true = where_true (is_load_rule rule) (is_load insn.op) (ap is_load_rule is) (row_passes rule_load ref_rules insn.op rule all_load at) in
    let local = local_of insn.op insn.arg in
    let reads : locals_read insn.op insn.arg ≡ (local, Ref) ∷ [] =
    ap (λ (b : Bool). cond b (map (λ (cell : Cell). (local, cell)) (cells_given insn.op insn.arg)) (cond (eqb insn.op IINC) ((local, Int) ∷ []) [])) load
    ∙ ap (λ (cs : List Cell). map (λ (cell : Cell). (local, cell)) cs) gives in
    let held : LocalHolds frame (local, Ref) = (h.type, (taken_one frame.locals local h.type h.stands, h.reference)) in
    record {
      takes = record { below = frame.stack; top = []; whole = whole_nil frame.stack; holds = subst (λ (cs : List Cell). HoldsCells cs []) (sym takes) refl };
      reads = subst (λ (rs : List (ℕ × Cell)). All (LocalHolds frame) rs) (sym reads) (one_read frame local Ref held);
      given = h.type ∷ [];
      gives = subst (λ (cs : List Cell). HoldsCells cs (h.type ∷ [])) (sym gives) (one_ref h.type h.reference);
      formed = reference_formed h.type h.reference (some_word_holds false frame.locals local h.type formed.locals h.stands);
      stack = h.stack;
      locals = kept insn [] frame.locals after.locals (no_store_of insn rule at (ap is_store_rule is)) h.locals;
      alone = alone_of insn rule at (ap is_move is);
    }

store_step : (w : List Shape) (site : Site) (frame : Frame) (insn : Insn) (after : Frame) (rule : RefRule) → row_of nat_cmp insn.op ref_rules ≡ Some rule → HasOwnOperands insn → rule ≡ rules.Store → IsStoreTyping w site frame insn after
    → IsCellStep insn frame after
store_step w site frame insn after rule at own is h =
    let gives : cells_given insn.op insn.arg ≡ [] = gives_of insn rule [] at own (ap rule_gives is) in
    let store : is_store insn.op ≡ true = where_true (is_store_rule rule) (is_store insn.op) (ap is_store_rule is) (row_passes rule_store ref_rules insn.op rule all_store at) in
    record {
      takes = h.pops.takes;
      reads = none_read frame insn (reads_none insn (no_load_of insn rule at (ap is_load_rule is)) (no_inc_of insn rule at));
      given = [];
      gives = subst (λ (cs : List Cell). HoldsCells cs []) (sym gives) refl;
      formed = refl;
      stack = h.stack ∙ whole_nil h.pops.takes.below;
      locals = subst (λ (b : Bool). StoresWhere b (local_of insn.op insn.arg) h.pops.takes.top frame.locals after.locals) (sym store) h.locals;
      alone = alone_of insn rule at (ap is_move is);
    }

-- an array from which a reference is loaded, and the item
record IsLoadable (array item : VType) : Type 0 where
  array_is : is_reference array ≡ true
  item_is : is_reference item ≡ true
  item_holds : holds_references item ≡ true

loadable : (array item : VType) → LoadsItem array item → holds_references array ≡ true → IsLoadable array item
loadable array item (inl h) i = record { array_is = ap is_reference h.0; item_is = ap is_reference h.1; item_holds = ap holds_references h.1 }
loadable array item (inr h) i =
    let parts = array_items item (ap holds_references (sym h) ∙ i) in
    record { array_is = ap is_reference h ∙ array_is_reference item; item_is = parts.0; item_holds = parts.1 }

load_ref_step : (site : Site) (frame : Frame) (insn : Insn) (after : Frame) (rule : RefRule) → row_of nat_cmp insn.op ref_rules ≡ Some rule → HasOwnOperands insn → rule ≡ rules.LoadRef → IsPlain insn → IsFormed frame
    → IsLoadRefTyping site frame after → IsCellStep insn frame after
load_ref_step site frame insn after rule at own is plain formed h =
    let takes : cells_taken insn.op insn.arg ≡ Ref ∷ Int ∷ [] = takes_of insn rule (Ref ∷ Int ∷ []) at own (ap rule_takes is) in
    let gives : cells_given insn.op insn.arg ≡ Ref ∷ [] = gives_of insn rule (Ref ∷ []) at own (ap rule_gives is) in
    let whole : are_formed false (h.below ++ h.array ∷ Integer ∷ []) ≡ true = ap (are_formed false) (sym h.whole) ∙ formed.stack in
    let top = behind false h.below (h.array ∷ Integer ∷ []) whole in
    let types = loadable h.array h.item h.loads (head_parts false h.array (Integer ∷ []) top).items in
    let held : HoldsCells (Ref ∷ Int ∷ []) (h.array ∷ Integer ∷ []) = (h.array ∷ [], (Integer ∷ [], (refl, (h.array, (refl, types.array_is)), (Integer ∷ [], ([], (refl, refl, refl)))))) in
    record {
      takes = record { below = h.below; top = h.array ∷ Integer ∷ []; whole = h.whole; holds = subst (λ (cs : List Cell). HoldsCells cs (h.array ∷ Integer ∷ [])) (sym takes) held };
      reads = none_read frame insn plain.no_reads;
      given = h.item ∷ [];
      gives = subst (λ (cs : List Cell). HoldsCells cs (h.item ∷ [])) (sym gives) (one_ref h.item types.item_is);
      formed = reference_formed h.item types.item_is types.item_holds;
      stack = h.stack;
      locals = kept insn (h.array ∷ Integer ∷ []) frame.locals after.locals plain.no_store h.locals;
      alone = plain.alone;
    }

-- ---- constructors and new

may_be : (w : List Shape) (site : Site) (class : RefType) (before after : VType) → IsInitialised w site class before after → MayReplace before after
may_be w site class before after i = record {
  old_is = initialised_uninit w site class before after i;
  new_is = inr (reference_is i);
  narrow = narrow_is i;
  holds = holds_is i;
}
  where
    reference_is : IsInitialised w site class before after → is_reference after ≡ true
    reference_is (this _ _ current name b t c p a) = ap is_reference a
    reference_is (made _ _ pc insn name b i o g c a) = ap is_reference a

    narrow_is : IsInitialised w site class before after → is_wide after ≡ false
    narrow_is (this _ _ current name b t c p a) = ap is_wide a
    narrow_is (made _ _ pc insn name b i o g c a) = ap is_wide a

    holds_is : IsInitialised w site class before after → holds_references after ≡ true
    holds_is (this _ _ current name b t c p a) = ap holds_references a
    holds_is (made _ _ pc insn name b i o g c a) = ap holds_references a

init_step : (w : List Shape) (site : Site) (frame : Frame) (insn : Insn) (method : MethodRef) (after : Frame) → IsPlain insn → insn.arg ≡ args.Method method → IsInitTyping w site frame insn method after → IsStepOf insn frame after
init_step w site frame insn method after plain is h =
    let between : Frame = record { locals = frame.locals; stack = h.pops.takes.below; this_uninit = frame.this_uninit } in
    let gives : cells_given insn.op insn.arg ≡ [] = ap (cells_given insn.op) is ∙ ap result_cells h.no_result in
    let step : IsCellStep insn frame between = record {
      takes = h.pops.takes;
      reads = none_read frame insn plain.no_reads;
      given = [];
      gives = subst (λ (cs : List Cell). HoldsCells cs []) (sym gives) refl;
      formed = refl;
      stack = whole_nil h.pops.takes.below;
      locals = kept insn h.pops.takes.top frame.locals frame.locals plain.no_store refl;
      alone = plain.alone;
    } in
    by_replacing between step (record { old = h.before; new = h.made; may = may_be w site method.class h.before h.made h.initialised; locals = h.locals; stack = inl h.stack })

new_step : (w : List Shape) (site : Site) (frame : Frame) (insn : Insn) (after : Frame) (rule : RefRule) → row_of nat_cmp insn.op ref_rules ≡ Some rule → HasOwnOperands insn → rule ≡ rules.New → IsPlain insn → IsNewTyping w site frame after
    → IsStepOf insn frame after
new_step w site frame insn after rule at own is plain h =
    let takes : cells_taken insn.op insn.arg ≡ [] = takes_of insn rule [] at own (ap rule_takes is) in
    let gives : cells_given insn.op insn.arg ≡ Ref ∷ [] = gives_of insn rule (Ref ∷ []) at own (ap rule_gives is) in
    let between : Frame = record { locals = frame.locals; stack = frame.stack ++ types.Uninit site.pc ∷ []; this_uninit = frame.this_uninit } in
    let step : IsCellStep insn frame between = record {
      takes = record { below = frame.stack; top = []; whole = whole_nil frame.stack; holds = subst (λ (cs : List Cell). HoldsCells cs []) (sym takes) refl };
      reads = none_read frame insn plain.no_reads;
      given = types.Uninit site.pc ∷ [];
      gives = subst (λ (cs : List Cell). HoldsCells cs (types.Uninit site.pc ∷ [])) (sym gives) (one_ref (types.Uninit site.pc) refl);
      formed = refl;
      stack = refl;
      locals = kept insn [] frame.locals frame.locals plain.no_store refl;
      alone = plain.alone;
    } in
    by_replacing between step (record { old = types.Uninit site.pc; new = Top; may = record { old_is = refl; new_is = inl refl; narrow = refl; holds = refl }; locals = h.locals; stack = inr h.stack })

-- ---- fields

field_gives : (insn : Insn) (field : FieldRef) (puts : Bool) → insn.arg ≡ args.Field field → puts_field insn.op ≡ puts → cells_given insn.op insn.arg ≡ cond puts [] (desc_cell field.desc ∷ [])
field_gives insn field puts is p = ap (cells_given insn.op) is ∙ ap (λ (b : Bool). cond b [] (desc_cell field.desc ∷ [])) p

field_fit : (insn : Insn) (rule : RefRule) → row_of nat_cmp insn.op ref_rules ≡ Some rule → field_fits insn.op rule ≡ true
field_fit insn rule at = row_passes rule_field ref_rules insn.op rule all_fields at

-- ---- the rules

rule_step : (w : List Shape) (site : Site) (frame : Frame) (insn : Insn) (after : Frame) (rule : RefRule) → row_of nat_cmp insn.op ref_rules ≡ Some rule → HasOwnOperands insn → IsFormed frame → HasRuleTyping w site frame insn after rule
    → IsStepOf insn frame after
rule_step w site frame insn after rules.PushNull at own f h =
    goes_one w site frame insn _ types.Null Null after (plain_of insn rules.PushNull at refl refl refl) h (gives_of insn rules.PushNull (Null ∷ []) at own refl) refl refl
rule_step w site frame insn after rules.PushConstant at own f h =
    let const = const_is h.0 h.1 h.3 in
    goes_one w site frame insn _ h.1 (const_cell h.0) after (plain_of insn rules.PushConstant at refl refl refl) h.4 (ap (cells_given insn.op) h.2) const.cell const.holds
rule_step w site frame insn after rules.Load at own f h = by_cells (load_step site frame insn after rules.Load at own refl f h)
rule_step w site frame insn after rules.Store at own f h = by_cells (store_step w site frame insn after rules.Store at own refl h)
rule_step w site frame insn after (rules.LoadItem prim) at own f h =
    goes_one w site frame insn _ (desc_vtype (descs.Prim prim)) (desc_cell (descs.Prim prim)) after (plain_of insn (rules.LoadItem prim) at refl refl refl) h
    (gives_of insn (rules.LoadItem prim) (desc_cell (descs.Prim prim) ∷ []) at own refl) (desc_holds_cell (descs.Prim prim)) (desc_holds (descs.Prim prim))
rule_step w site frame insn after rules.LoadSmall at own f (inl h) =
    goes_one w site frame insn _ types.Integer Int after (plain_of insn rules.LoadSmall at refl refl refl) h (gives_of insn rules.LoadSmall (Int ∷ []) at own refl) refl refl
rule_step w site frame insn after rules.LoadSmall at own f (inr h) =
    goes_one w site frame insn _ types.Integer Int after (plain_of insn rules.LoadSmall at refl refl refl) h (gives_of insn rules.LoadSmall (Int ∷ []) at own refl) refl refl
rule_step w site frame insn after rules.LoadRef at own f h = by_cells (load_ref_step site frame insn after rules.LoadRef at own refl (plain_of insn rules.LoadRef at refl refl refl) f h)
rule_step w site frame insn after (rules.StoreItem prim) at own f h =
    goes_empty w site frame insn _ after (plain_of insn (rules.StoreItem prim) at refl refl refl) h (gives_of insn (rules.StoreItem prim) [] at own refl)
rule_step w site frame insn after rules.StoreSmall at own f (inl h) =
    goes_empty w site frame insn _ after (plain_of insn rules.StoreSmall at refl refl refl) h (gives_of insn rules.StoreSmall [] at own refl)
rule_step w site frame insn after rules.StoreSmall at own f (inr h) =
    goes_empty w site frame insn _ after (plain_of insn rules.StoreSmall at refl refl refl) h (gives_of insn rules.StoreSmall [] at own refl)
rule_step w site frame insn after rules.StoreRef at own f h =
    goes_empty w site frame insn _ after (plain_of insn rules.StoreRef at refl refl refl) h (gives_of insn rules.StoreRef [] at own refl)
rule_step w site frame insn after rules.Move at own f h =
    by_moving site.body.max_stack (takes_of insn rules.Move [] at own refl) (reads_none insn (no_load_of insn rules.Move at refl) (no_inc_of insn rules.Move at)) (no_store_of insn rules.Move at refl) (no_inc_of insn rules.Move at) h
rule_step w site frame insn after rules.TakeRefs at own f h =
    goes_empty w site frame insn _ after (plain_of insn rules.TakeRefs at refl refl refl) h (gives_of insn rules.TakeRefs [] at own refl)
rule_step w site frame insn after rules.ReturnValue at own f h =
    goes_empty w site frame insn _ after (plain_of insn rules.ReturnValue at refl refl refl) h.goes (gives_of insn rules.ReturnValue [] at own refl)
rule_step w site frame insn after rules.ReturnVoid at own f h =
    goes_empty w site frame insn _ after (plain_of insn rules.ReturnVoid at refl refl refl) h.goes (gives_of insn rules.ReturnVoid [] at own refl)
rule_step w site frame insn after rules.GetStatic at own f h =
    goes_one w site frame insn _ (desc_vtype h.0.desc) (desc_cell h.0.desc) after (plain_of insn rules.GetStatic at refl refl refl) h.2
    (field_gives insn h.0 false h.1 (not_true (puts_field insn.op) (field_fit insn rules.GetStatic at))) (desc_holds_cell h.0.desc) (desc_holds h.0.desc)
rule_step w site frame insn after rules.PutStatic at own f h =
    goes_empty w site frame insn _ after (plain_of insn rules.PutStatic at refl refl refl) h.2 (field_gives insn h.0 true h.1 (field_fit insn rules.PutStatic at))
rule_step w site frame insn after rules.GetField at own f h =
    goes_one w site frame insn _ (desc_vtype h.0.desc) (desc_cell h.0.desc) after (plain_of insn rules.GetField at refl refl refl) h.2.goes
    (field_gives insn h.0 false h.1 (not_true (puts_field insn.op) (field_fit insn rules.GetField at))) (desc_holds_cell h.0.desc) (desc_holds h.0.desc)
rule_step w site frame insn after rules.PutField at own f h = by h.2
  where
    by : IsPutTyping w site frame insn h.0 after ⊎ IsOwnPutTyping w site frame insn h.0 after → IsStepOf insn frame after
    by (inl x) = goes_empty w site frame insn _ after (plain_of insn rules.PutField at refl refl refl) x.goes (field_gives insn h.0 true h.1 (field_fit insn rules.PutField at))
    by (inr x) = goes_empty w site frame insn _ after (plain_of insn rules.PutField at refl refl refl) x.goes (field_gives insn h.0 true h.1 (field_fit insn rules.PutField at))
rule_step w site frame insn after rules.InvokeVirtual at own f h =
    goes_cells w site frame insn _ (result_types h.0.desc.result) (result_cells h.0.desc.result) after (plain_of insn rules.InvokeVirtual at refl refl refl) h.2.goes (ap (cells_given insn.op) h.1)
    (result_holds_cells h.0.desc.result) (result_holds h.0.desc.result)
rule_step w site frame insn after rules.InvokeSpecial at own f h = by h.2
  where
    by : ((h.0.name ≡ init_name) × IsInitTyping w site frame insn h.0 after) ⊎ IsSpecialTyping w site frame insn h.0 after → IsStepOf insn frame after
    by (inl x) = init_step w site frame insn h.0 after (plain_of insn rules.InvokeSpecial at refl refl refl) h.1 x.1
    by (inr x) =
        goes_cells w site frame insn _ (result_types h.0.desc.result) (result_cells h.0.desc.result) after (plain_of insn rules.InvokeSpecial at refl refl refl) x.goes (ap (cells_given insn.op) h.1)
        (result_holds_cells h.0.desc.result) (result_holds h.0.desc.result)
rule_step w site frame insn after rules.InvokeStatic at own f h =
    goes_cells w site frame insn _ (result_types h.0.desc.result) (result_cells h.0.desc.result) after (plain_of insn rules.InvokeStatic at refl refl refl) h.3 (ap (cells_given insn.op) h.1)
    (result_holds_cells h.0.desc.result) (result_holds h.0.desc.result)
rule_step w site frame insn after rules.InvokeInterface at own f h =
    goes_cells w site frame insn _ (result_types h.0.desc.result) (result_cells h.0.desc.result) after (plain_of insn rules.InvokeInterface at refl refl refl) h.3 (ap (cells_given insn.op) h.1)
    (result_holds_cells h.0.desc.result) (result_holds h.0.desc.result)
rule_step w site frame insn after rules.New at own f h = new_step w site frame insn after rules.New at own refl (plain_of insn rules.New at refl refl refl) h.2
rule_step w site frame insn after rules.NewArray at own f h =
    goes_one w site frame insn _ (types.PrimArray h.0) Ref after (plain_of insn rules.NewArray at refl refl refl) h.2 (gives_of insn rules.NewArray (Ref ∷ []) at own refl) (reference_cell (types.PrimArray h.0) refl) refl
rule_step w site frame insn after rules.NewRefArray at own f h =
    let type = types.Array (ref_vtype h.0) in
    goes_one w site frame insn _ type Ref after (plain_of insn rules.NewRefArray at refl refl refl) h.2 (gives_of insn rules.NewRefArray (Ref ∷ []) at own refl) (reference_cell type refl)
    (array_holds (ref_vtype h.0) (ref_vtype_reference h.0) (ref_vtype_holds h.0))
rule_step w site frame insn after rules.ArrayLength at own f h =
    goes_one w site frame insn _ types.Integer Int after (plain_of insn rules.ArrayLength at refl refl refl) h.2 (gives_of insn rules.ArrayLength (Int ∷ []) at own refl) refl refl
rule_step w site frame insn after rules.Throw at own f h =
    goes_empty w site frame insn _ after (plain_of insn rules.Throw at refl refl refl) h (gives_of insn rules.Throw [] at own refl)
rule_step w site frame insn after rules.CheckCast at own f h =
    goes_one w site frame insn _ (ref_vtype h.0) Ref after (plain_of insn rules.CheckCast at refl refl refl) h.2 (gives_of insn rules.CheckCast (Ref ∷ []) at own refl)
    (reference_cell (ref_vtype h.0) (ref_vtype_reference h.0)) (ref_vtype_holds h.0)
rule_step w site frame insn after rules.InstanceOf at own f h =
    goes_one w site frame insn _ types.Integer Int after (plain_of insn rules.InstanceOf at refl refl refl) h.2 (gives_of insn rules.InstanceOf (Int ∷ []) at own refl) refl refl
rule_step w site frame insn after rules.NewMultiArray at own f h =
    goes_one w site frame insn _ (ref_vtype h.0) Ref after (plain_of insn rules.NewMultiArray at refl refl refl) h.3 (ap (cells_given insn.op) h.2)
    (reference_cell (ref_vtype h.0) (ref_vtype_reference h.0)) (ref_vtype_holds h.0)

-- ---- instructions that work on words

abbrev is_word_alone : ℕ × OpForm → Bool
is_word_alone row = by row.1.kind
  where
    by : Kind → Bool
    by kinds.Word = is_none (shuffle_of row.0)
    by kinds.Refs = true
    by kinds.Outside = true

all_words_alone : list_all is_word_alone opcode_rows ≡ true
unfolding opcode_rows
all_words_alone = refl

word_alone : (insn : Insn) (row : OpForm) → op_row insn.op ≡ Some row → row.kind ≡ kinds.Word → shuffle_of insn.op ≡ None
word_alone insn row at word =
    let passes = row_passes is_word_alone opcode_rows insn.op row all_words_alone at in
    none_is (shuffle_of insn.op) (rw word at passes)

word_step : (max_stack : ℕ) (frame : Frame) (insn : Insn) (after : Frame) → IsWordTyping max_stack frame insn after → IsCellStep insn frame after
word_step max_stack frame insn after h = record {
  takes = h.typing.takes;
  reads = h.typing.reads;
  given = h.typing.given;
  gives = h.typing.gives;
  formed = numbers_formed (effect_of insn).gives h.typing.given (gives_numbers insn h.is_word) h.typing.gives;
  stack = h.typing.stack;
  locals = h.typing.locals;
  alone = word_alone insn h.is_word.row h.is_word.stands h.is_word.half;
}

-- ---- all instructions

pub step_of : (w : List Shape) (site : Site) (frame : Frame) (insn : Insn) (after : Frame) → HasOwnOperands insn → IsFormed frame → StepTyping w site frame insn after → IsStepOf insn frame after
step_of w site frame insn after own f (words h) = by_cells (word_step site.body.max_stack frame insn after h)
step_of w site frame insn after own f (references h) = rule_step w site frame insn after h.rule h.stands own f h.typing
