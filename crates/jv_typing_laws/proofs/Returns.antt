-- A return is that of the method's result.
use Rattle.std.proofs.Common.{◌≡◌, ℕ, Bool, true, false, not, List, [], ◌∷◌, ◌++◌, Option, Some, None, slice_get, refl, sym, ap, ◌∙◌, subst}
use Rattle.std.specs.Prelude.{◌&&◌}
use Rattle.std.specs.List.{AllZip, list_all}
use Rattle.std.specs.Ordering.{nat_cmp}
use Rattle.std.proofs.lemmas.Bool.{and_parts}
use Rattle.jv_lists.proofs.Tests.{not_true}
use Rattle.jv_table.specs.Rows.{row_of}
use Rattle.jv_table.specs.CodeRows.{OpForm, opcode_rows}
use Rattle.jv_table.specs.declared.code_tables.Cell.{Cell}
use Rattle.jv_table.specs.declared.code_tables.Cell.TheVariants.{Int, Float, Long, Double, Ref, Null}
use Rattle.jv_table.specs.declared.code_tables.Kind.{Kind}
use Rattle.jv_table.specs.declared.code_tables.Kind.TheVariants as kinds
use Rattle.jv_types.specs.declared.desc.PrimType.TheVariants as prims
use Rattle.jv_types.specs.declared.desc.Desc.{Desc}
use Rattle.jv_types.specs.declared.desc.Desc.TheVariants as descs
use Rattle.jv_types.specs.declared.shapes.Shape.{Shape}
use Rattle.jv_types.specs.declared.shapes.MethodShape.{MethodShape}
use Rattle.jv_types.specs.declared.ids.MethodId.{MethodId}
use Rattle.jv_types.specs.declared.instruction.Insn.{Insn}
use Rattle.jv_types.specs.declared.frames.VType.{VType, Top}
use Rattle.jv_types.specs.declared.frames.VType as types
use Rattle.jv_types.specs.declared.frames.Frame.{Frame}
use Rattle.jv_resolve.specs.Members.{IsMethod}
use Rattle.jv_insn.specs.Effects.{op_row, is_return, cells_taken, decides_cells, desc_cell, result_cells}
use Rattle.jv_insn.specs.Forms.{HasOwnOperands, HasRowOperands}
use Rattle.jv_insn.specs.Kinds.{HoldsCell, HoldsCells, is_reference}
use Rattle.jv_insn.proofs.Tables.{row_passes, row_cells_taken}
use Rattle.jv_names.proofs.NamedOnce.{given_twice}
use Rattle.jv_frames.specs.Types.{is_object, type_words, in_words, desc_vtype, ref_vtype}
use Rattle.jv_frames.specs.Assignable.{IsAssignable}
use Rattle.jv_typing.specs.declared.rules.RefRule.{RefRule}
use Rattle.jv_typing.specs.declared.rules.RefRule.TheVariants as rules
use Rattle.jv_typing.specs.Rules.{ref_rules}
use Rattle.jv_typing.specs.Typing.{is_top}
use Rattle.jv_typing.specs.References.{Site, HasRuleTyping, IsReturnTyping, IsVoidTyping}
use Rattle.jv_typing.specs.Steps.{StepTyping, words, references}
use Rattle.jv_typing_laws.proofs.FormedWords.{ref_vtype_reference, reference_no_top}
use Rattle.jv_typing_laws.proofs.OneFrame.{same_head}
use Rattle.jv_typing_laws.proofs.KindsOfWords.{plain_same, to_object}
use Rattle.jv_typing_laws.proofs.CellSteps.{takes_of}

-- ---- the cell of a word

abbrev cell_of : VType → Cell
cell_of types.Top = Ref
cell_of types.Integer = Int
cell_of types.Float = Float
cell_of types.Long = Long
cell_of types.Double = Double
cell_of types.Null = Ref
cell_of types.UninitThis = Ref
cell_of (types.Uninit pc) = Ref
cell_of (types.Class name) = Ref
cell_of (types.PrimArray prim) = Ref
cell_of (types.Array' shape items) = Ref

reference_cell : (type : VType) → is_reference type ≡ true → cell_of type ≡ Ref
reference_cell types.Top r = refl
reference_cell types.Integer r = absurd cc
reference_cell types.Float r = absurd cc
reference_cell types.Long r = absurd cc
reference_cell types.Double r = absurd cc
reference_cell types.Null r = refl
reference_cell types.UninitThis r = refl
reference_cell (types.Uninit pc) r = refl
reference_cell (types.Class name) r = refl
reference_cell (types.PrimArray prim) r = refl
reference_cell (types.Array' shape items) r = refl

desc_cell_of : (desc : Desc) → cell_of (desc_vtype desc) ≡ desc_cell desc
desc_cell_of (descs.Prim prims.Boolean) = refl
desc_cell_of (descs.Prim prims.Char) = refl
desc_cell_of (descs.Prim prims.Float) = refl
desc_cell_of (descs.Prim prims.Double) = refl
desc_cell_of (descs.Prim prims.Byte) = refl
desc_cell_of (descs.Prim prims.Short) = refl
desc_cell_of (descs.Prim prims.Int) = refl
desc_cell_of (descs.Prim prims.Long) = refl
desc_cell_of (descs.Ref type) = reference_cell (ref_vtype type) (ref_vtype_reference type)

-- no word of a descriptor's type is Top
desc_no_top : (desc : Desc) → is_top (desc_vtype desc) ≡ false
desc_no_top (descs.Prim prims.Boolean) = refl
desc_no_top (descs.Prim prims.Char) = refl
desc_no_top (descs.Prim prims.Float) = refl
desc_no_top (descs.Prim prims.Double) = refl
desc_no_top (descs.Prim prims.Byte) = refl
desc_no_top (descs.Prim prims.Short) = refl
desc_no_top (descs.Prim prims.Int) = refl
desc_no_top (descs.Prim prims.Long) = refl
desc_no_top (descs.Ref type) = not_true (is_top (ref_vtype type)) (reference_no_top (ref_vtype type) (ref_vtype_reference type))

object_cell : (type : VType) → is_object type ≡ true → cell_of type ≡ Ref
object_cell types.Top o = refl
object_cell types.Integer o = absurd cc
object_cell types.Float o = absurd cc
object_cell types.Long o = absurd cc
object_cell types.Double o = absurd cc
object_cell types.Null o = refl
object_cell types.UninitThis o = refl
object_cell (types.Uninit pc) o = refl
object_cell (types.Class name) o = refl
object_cell (types.PrimArray prim) o = refl
object_cell (types.Array' shape items) o = refl

-- what is assignable to a word other than Top is of the same cell
same_cell : (w : List Shape) (a b : VType) → is_top b ≡ false → IsAssignable w a b → cell_of a ≡ cell_of b
same_cell w a b t h = by (is_object b) refl
  where
    by : (o : Bool) → is_object b ≡ o → cell_of a ≡ cell_of b
    by true o = reference_cell a (to_object w a b o h) ∙ sym (object_cell b o)
    by false o = ap cell_of (plain_same w a b t o h)

-- ---- the cells that a return takes

abbrev is_value : List Cell → Bool
is_value [] = false
is_value (cell ∷ next ∷ cells) = false
is_value (Null ∷ []) = false
is_value (cell ∷ []) = true

abbrev value_row : Option OpForm → Bool
value_row None = false
value_row (Some row) = not (decides_cells row.form) && is_value row.takes

abbrev return_fits : ℕ → RefRule → Bool
return_fits op rules.ReturnValue = value_row (op_row op)
return_fits op rules.ReturnVoid = true
return_fits op _ = not (is_return op)

abbrev return_rule : ℕ × RefRule → Bool
return_rule row = return_fits row.0 row.1

all_returns : list_all return_rule ref_rules ≡ true
unfolding opcode_rows
all_returns = refl

record IsValue (cells : List Cell) : Type 0 where
  cell : Cell
  are : cells ≡ cell ∷ []
  alone : is_value (cell ∷ []) ≡ true

value_is : (cells : List Cell) → is_value cells ≡ true → IsValue cells
value_is [] e = absurd cc
value_is (cell ∷ next ∷ cells) e = absurd cc
value_is (cell ∷ []) e = record { cell = cell; are = refl; alone = e }

value_taken : (insn : Insn) (o : Option OpForm) → op_row insn.op ≡ o → HasRowOperands o insn.arg → value_row o ≡ true → IsValue (cells_taken insn.op insn.arg)
value_taken insn None e h v = absurd h
value_taken insn (Some row) e h v =
    let parts = and_parts (not (decides_cells row.form)) (is_value row.takes) v in
    subst IsValue (sym (row_cells_taken insn.op insn.arg row e h (not_true (decides_cells row.form) parts.0))) (value_is row.takes parts.1)

head_of : (own type : VType) (more rest first behind : List VType) → first ≡ own ∷ more → first ++ behind ≡ type ∷ rest → own ≡ type
head_of own type more rest first behind is t = same_head own type (more ++ behind) rest (sym (ap (λ (l : List VType). l ++ behind) is) ∙ t)

-- the first word of a value tells its cell
first_cell : (cell : Cell) (first behind : List VType) (type : VType) (rest : List VType) → is_value (cell ∷ []) ≡ true → HoldsCell cell first → first ++ behind ≡ type ∷ rest → cell ≡ cell_of type
first_cell Int first behind type rest v h t = ap cell_of (head_of types.Integer type [] rest first behind h t)
first_cell Float first behind type rest v h t = ap cell_of (head_of types.Float type [] rest first behind h t)
first_cell Long first behind type rest v h t = ap cell_of (head_of types.Long type (Top ∷ []) rest first behind h t)
first_cell Double first behind type rest v h t = ap cell_of (head_of types.Double type (Top ∷ []) rest first behind h t)
first_cell Ref first behind type rest v h t = sym (reference_cell h.0 h.1.1) ∙ ap cell_of (head_of h.0 type [] rest first behind h.1.0 t)
first_cell Null first behind type rest v h t = absurd cc

words_head : (type : VType) → (rest : List VType) × (type_words type ≡ type ∷ rest)
words_head types.Top = ([], refl)
words_head types.Integer = ([], refl)
words_head types.Float = ([], refl)
words_head types.Long = (Top ∷ [], refl)
words_head types.Double = (Top ∷ [], refl)
words_head types.Null = ([], refl)
words_head types.UninitThis = ([], refl)
words_head (types.Uninit pc) = ([], refl)
words_head (types.Class name) = ([], refl)
words_head (types.PrimArray prim) = ([], refl)
words_head (types.Array' shape items) = ([], refl)

record HasFirst (w : List Shape) (top : List VType) (wanted : VType) : Type 0 where
  type : VType
  rest : List VType
  is : top ≡ type ∷ rest
  fits : IsAssignable w type wanted

zip_first : (w : List Shape) (top : List VType) (wanted : VType) (more : List VType) → AllZip (IsAssignable w) top (wanted ∷ more) → HasFirst w top wanted
zip_first w [] wanted more z = absurd z
zip_first w (type ∷ rest) wanted more z = record { type = type; rest = rest; is = refl; fits = z.0 }

value_cells : (w : List Shape) (cells : List Cell) (top : List VType) (desc : Desc) → IsValue cells → HoldsCells cells top → AllZip (IsAssignable w) top (in_words (desc_vtype desc ∷ [])) → cells ≡ desc_cell desc ∷ []
value_cells w cells top desc v h z =
    let head = words_head (desc_vtype desc) in
    let zip : AllZip (IsAssignable w) top (desc_vtype desc ∷ (head.0 ++ [])) = subst (λ (l : List VType). AllZip (IsAssignable w) top (l ++ [])) head.1 z in
    let first = zip_first w top (desc_vtype desc) (head.0 ++ []) zip in
    let held : HoldsCells (v.cell ∷ []) top = subst (λ (cs : List Cell). HoldsCells cs top) v.are h in
    let cell : v.cell ≡ cell_of first.type = first_cell v.cell held.0 held.1.0 first.type first.rest v.alone held.1.1.1 (sym held.1.1.0 ∙ first.is) in
    let same : v.cell ≡ desc_cell desc = cell ∙ same_cell w first.type (desc_vtype desc) (desc_no_top desc) first.fits ∙ desc_cell_of desc in
    v.are ∙ ap (λ (c : Cell). c ∷ []) same

-- ---- the method's result

one_shape : (w : List Shape) (method : MethodId) (a b : MethodShape) → IsMethod w method a → IsMethod w method b → a ≡ b
one_shape w method a b x y =
    let class : x.0 ≡ y.0 = given_twice (slice_get w method.class.number) x.0 y.0 x.1 y.1 in
    let there : slice_get y.0.methods method.index ≡ Some a = subst (λ (s : Shape). slice_get s.methods method.index ≡ Some a) class x.2 in
    given_twice (slice_get y.0.methods method.index) a b there y.2

void_returns : (w : List Shape) (site : Site) (frame : Frame) (insn : Insn) (after : Frame) (shape : MethodShape) → IsMethod w site.method shape → HasOwnOperands insn → row_of nat_cmp insn.op ref_rules ≡ Some rules.ReturnVoid
    → IsVoidTyping w site frame insn after → cells_taken insn.op insn.arg ≡ result_cells shape.desc.result
void_returns w site frame insn after shape method own at h =
    let same : h.shape ≡ shape = one_shape w site.method h.shape shape h.method method in
    takes_of insn rules.ReturnVoid [] at own refl ∙ sym (ap result_cells h.no_result) ∙ ap (λ (s : MethodShape). result_cells s.desc.result) same

value_returns : (w : List Shape) (site : Site) (frame : Frame) (insn : Insn) (after : Frame) (shape : MethodShape) → IsMethod w site.method shape → HasOwnOperands insn → row_of nat_cmp insn.op ref_rules ≡ Some rules.ReturnValue
    → IsReturnTyping w site frame insn after → cells_taken insn.op insn.arg ≡ result_cells shape.desc.result
value_returns w site frame insn after shape method own at h =
    let same : h.shape ≡ shape = one_shape w site.method h.shape shape h.method method in
    let row : value_row (op_row insn.op) ≡ true = row_passes return_rule ref_rules insn.op rules.ReturnValue all_returns at in
    let value = value_taken insn (op_row insn.op) refl own row in
    value_cells w (cells_taken insn.op insn.arg) h.goes.pops.takes.top h.type value h.goes.pops.takes.holds h.goes.pops.fits
    ∙ sym (ap result_cells h.result) ∙ ap (λ (s : MethodShape). result_cells s.desc.result) same

-- an instruction of another rule is no return
other_rule : (op : ℕ) (rule : RefRule) → not (is_return op) ≡ true → is_return op ≡ true → ⊥
other_rule op rule n r = let wrong : not true ≡ true = ap not (sym r) ∙ n in absurd cc

rule_returns : (w : List Shape) (site : Site) (frame : Frame) (insn : Insn) (after : Frame) (shape : MethodShape) (rule : RefRule) → IsMethod w site.method shape → HasOwnOperands insn → row_of nat_cmp insn.op ref_rules ≡ Some rule
    → HasRuleTyping w site frame insn after rule → is_return insn.op ≡ true → return_fits insn.op rule ≡ true → cells_taken insn.op insn.arg ≡ result_cells shape.desc.result
rule_returns w site frame insn after shape rules.ReturnValue method own at h r fits = value_returns w site frame insn after shape method own at h
rule_returns w site frame insn after shape rules.ReturnVoid method own at h r fits = void_returns w site frame insn after shape method own at h
rule_returns w site frame insn after shape rule method own at h r fits = absurd (other_rule insn.op rule fits r)

abbrev word_no_return : ℕ × OpForm → Bool
word_no_return row = by row.1.kind
  where
    by : Kind → Bool
    by kinds.Word = not (is_return row.0)
    by kinds.Refs = true
    by kinds.Outside = true

all_no_return : list_all word_no_return opcode_rows ≡ true
unfolding opcode_rows
all_no_return = refl

pub step_returns : (w : List Shape) (site : Site) (frame : Frame) (insn : Insn) (after : Frame) (shape : MethodShape) → IsMethod w site.method shape → HasOwnOperands insn → StepTyping w site frame insn after → is_return insn.op ≡ true
    → cells_taken insn.op insn.arg ≡ result_cells shape.desc.result
step_returns w site frame insn after shape method own (words h) r =
    let passes = row_passes word_no_return opcode_rows insn.op h.is_word.row all_no_return h.is_word.stands in
    let none : not (is_return insn.op) ≡ true = rw h.is_word.half at passes in
    absurd (other_rule insn.op rules.Throw none r)
step_returns w site frame insn after shape method own (references h) r =
    rule_returns w site frame insn after shape h.rule method own h.stands h.typing r (row_passes return_rule ref_rules insn.op h.rule all_returns h.stands)
