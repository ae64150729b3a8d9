-- Facts of a single instruction by which it may stand in a body that is encoded, for whoever builds code
-- (JVMS 4.9.1, 6.5). They name no pool and no bytes.
use Rattle.std.specs.Prelude.{◌≡◌, ◌<◌, ◌≤◌, ℕ, ℤ, Bool, true, false, IsTrue, ◌==◌, List, Some, FitsSigned}
use Rattle.std.specs.Int.{w8, w16, w32}
use Rattle.jv_table.specs.CodeRows.{OpForm}
use Rattle.jv_table.specs.declared.code_tables.Form.{Form}
use Rattle.jv_table.specs.declared.code_tables.Form.TheVariants as forms
use Rattle.jv_table.specs.declared.ops.TheConstants.{RET}
use Rattle.jv_types.specs.Bodies.{IsStart}
use Rattle.jv_types.specs.NameForms.{is_class_name}
use Rattle.jv_types.specs.declared.desc.PrimType.{PrimType}
use Rattle.jv_types.specs.declared.desc.RefType.{RefType}
use Rattle.jv_types.specs.declared.references.FieldRef.{FieldRef}
use Rattle.jv_types.specs.declared.references.MethodRef.{MethodRef}
use Rattle.jv_types.specs.declared.instruction.Const.{Const}
use Rattle.jv_types.specs.declared.instruction.Const.TheVariants as consts
use Rattle.jv_types.specs.declared.instruction.Arg.{Arg}
use Rattle.jv_types.specs.declared.instruction.Arg.TheVariants as args
use Rattle.jv_types.specs.declared.instruction.Insn.{Insn}
use Rattle.jv_desc.specs.Texts.{ref_dims, IsRef, IsDesc, IsMethodDesc, words_of}
use Rattle.jv_insn.specs.Effects.{op_row, local_of}
use Rattle.jv_insn.specs.Forms.{is_category_2}
use Rattle.jv_insn.specs.Meanings.{FitsOp, MayCall, has_local}
use Rattle.jv_insn.specs.Encoding.{branch_offset}

-- a constant whose class or array type, where it is one, has a name
abbrev pub IsFormedConst : Const → Type 0
IsFormedConst (consts.Class type) = IsRef 255 type
IsFormedConst _ = Unit {0}

abbrev pub FitsConst : Bool → Arg → Type 0
FitsConst category_2 arg = (const : Const) × (arg ≡ args.Constant const) × IsFormedConst const × (is_category_2 const ≡ category_2)

-- the target of a jump is an instruction, so near that two bytes say how far it is, or four
abbrev pub FitsNear : List (ℕ × Insn) → ℕ → Arg → Type 0
FitsNear insns pc arg = (target : ℕ) × (arg ≡ args.Jump target) × IsStart insns target × FitsSigned w16 (branch_offset pc target)

abbrev pub FitsFar : List (ℕ × Insn) → ℕ → Arg → Type 0
FitsFar insns pc arg = (target : ℕ) × (arg ≡ args.Jump target) × IsStart insns target × FitsSigned w32 (branch_offset pc target)

-- A method that is named, of a class or array type that has a name.
abbrev pub IsFormedMethod : MethodRef → Type 0
IsFormedMethod method = IsRef 255 method.class × IsMethodDesc method.desc

-- Operands of this layout that fit their bytes, name what the opcode may name, and lead to instructions of the
-- code. Nothing is said of switches here.
abbrev pub FitsForm : List (ℕ × Insn) → ℕ → ℕ → Form → Arg → Type 0
FitsForm insns pc op forms.Nothing arg = arg ≡ args.Nothing
FitsForm insns pc op forms.Local arg = (local : ℕ) × (arg ≡ args.Local local) × (local < 256)
FitsForm insns pc op forms.Small1 arg = (value : ℤ) × (arg ≡ args.Small value) × FitsSigned w8 value
FitsForm insns pc op forms.Small2 arg = (value : ℤ) × (arg ≡ args.Small value) × FitsSigned w16 value
FitsForm insns pc op forms.Inc arg = (local : ℕ) × (by : ℤ) × (arg ≡ args.Inc local by) × (local < 256) × FitsSigned w8 by
FitsForm insns pc op forms.Load1 arg = FitsConst false arg
FitsForm insns pc op forms.Load2 arg = FitsConst false arg
FitsForm insns pc op forms.LoadTwo arg = FitsConst true arg
FitsForm insns pc op forms.Class arg = (type : RefType) × (arg ≡ args.Class type) × IsRef 255 type × FitsOp op type
FitsForm insns pc op forms.Field arg = (field : FieldRef) × (arg ≡ args.Field field) × IsTrue (is_class_name field.class) × IsDesc field.desc
FitsForm insns pc op forms.Method arg = (method : MethodRef) × (arg ≡ args.Method method) × IsFormedMethod method × MayCall op method
FitsForm insns pc op forms.InterfaceMethod arg =
    (method : MethodRef) × (arg ≡ args.Method method) × IsFormedMethod method × (method.interface ≡ true) × (words_of method.desc true < 256)
FitsForm insns pc op forms.Dynamic arg = arg ≡ args.Dynamic
FitsForm insns pc op forms.NewPrim arg = (prim : PrimType) × (arg ≡ args.NewPrim prim)
FitsForm insns pc op forms.Multi arg = (type : RefType) × (dims : ℕ) × (arg ≡ args.Multi type dims) × IsRef 255 type × (0 < dims) × (dims ≤ ref_dims type)
FitsForm insns pc op forms.Jump2 arg = FitsNear insns pc arg
FitsForm insns pc op forms.Jump4 arg = FitsFar insns pc arg
FitsForm insns pc op forms.TableSwitch arg = ⊥
FitsForm insns pc op forms.LookupSwitch arg = ⊥
FitsForm insns pc op forms.Wide arg = ⊥

-- the same under wide: loads, stores and iinc, but not ret
abbrev pub FitsWide : ℕ → Form → Arg → Type 0
FitsWide op forms.Local arg = (local : ℕ) × (arg ≡ args.Local local) × (local < 65536) × (op == RET ≡ false)
FitsWide op forms.Inc arg = (local : ℕ) × (by : ℤ) × (arg ≡ args.Inc local by) × (local < 65536) × FitsSigned w16 by
FitsWide op _ arg = ⊥

abbrev pub FitsUnder : Bool → List (ℕ × Insn) → ℕ → ℕ → Form → Arg → Type 0
FitsUnder false insns pc op form arg = FitsForm insns pc op form arg
FitsUnder true insns pc op form arg = FitsWide op form arg

-- an instruction fits at an offset of a code of these instructions and so many local variables
pub record FitsCode (max_locals : ℕ) (insns : List (ℕ × Insn)) (pc : ℕ) (insn : Insn) : Type 0 where
  pub row : OpForm
  pub known : op_row insn.op ≡ Some row
  pub operands : FitsUnder insn.wide insns pc insn.op row.form insn.arg
  pub local : IsTrue (has_local insn.op) → local_of insn.op insn.arg < max_locals
