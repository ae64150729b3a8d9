-- The operands that an instruction has by the layout of its opcode (JVMS 6.5).
use Rattle.std.specs.Prelude.{◌≡◌, ◌<◌, ◌≤◌, ℕ, ℤ, Bool, true, false, List, Option, Some, None}
use Rattle.jv_table.specs.CodeRows.{OpForm}
use Rattle.jv_table.specs.declared.code_tables.Form.{Form}
use Rattle.jv_table.specs.declared.code_tables.Form.TheVariants as forms
use Rattle.jv_types.specs.declared.desc.PrimType.{PrimType}
use Rattle.jv_types.specs.declared.desc.RefType.{RefType}
use Rattle.jv_types.specs.declared.references.FieldRef.{FieldRef}
use Rattle.jv_types.specs.declared.references.MethodRef.{MethodRef}
use Rattle.jv_types.specs.declared.instruction.Const.{Const}
use Rattle.jv_types.specs.declared.instruction.Const.TheVariants as consts
use Rattle.jv_types.specs.declared.instruction.Arg.{Arg}
use Rattle.jv_types.specs.declared.instruction.Arg.TheVariants as args
use Rattle.jv_types.specs.declared.instruction.Insn.{Insn}
use Rattle.jv_desc.specs.Texts.{ref_dims}
use Rattle.jv_insn.specs.Effects.{op_row}

-- a constant of category 2: a long or a double
abbrev pub is_category_2 : Const → Bool
is_category_2 (consts.Long value) = true
is_category_2 (consts.Double bits) = true
is_category_2 _ = false

-- a constant of this category
abbrev pub HasConstant : Bool → Arg → Type 0
HasConstant category_2 arg = (const : Const) × (arg ≡ args.Constant const) × (is_category_2 const ≡ category_2)

-- an array type, of which one dimension or more is made, and no more than it has
abbrev pub HasDims : Arg → Type 0
HasDims arg = (type : RefType) × (dims : ℕ) × (arg ≡ args.Multi type dims) × (0 < dims) × (dims ≤ ref_dims type)

-- these are operands of this layout. An opcode that only wide has before it stands by itself nowhere.
abbrev pub HasOperands : Form → Arg → Type 0
HasOperands forms.Nothing arg = arg ≡ args.Nothing
HasOperands forms.Local arg = (local : ℕ) × (arg ≡ args.Local local)
HasOperands forms.Small1 arg = (value : ℤ) × (arg ≡ args.Small value)
HasOperands forms.Small2 arg = (value : ℤ) × (arg ≡ args.Small value)
HasOperands forms.Inc arg = (local : ℕ) × (by : ℤ) × (arg ≡ args.Inc local by)
HasOperands forms.Load1 arg = HasConstant false arg
HasOperands forms.Load2 arg = HasConstant false arg
HasOperands forms.LoadTwo arg = HasConstant true arg
HasOperands forms.Class arg = (type : RefType) × (arg ≡ args.Class type)
HasOperands forms.Field arg = (field : FieldRef) × (arg ≡ args.Field field)
HasOperands forms.Method arg = (method : MethodRef) × (arg ≡ args.Method method)
HasOperands forms.InterfaceMethod arg = (method : MethodRef) × (arg ≡ args.Method method)
HasOperands forms.Dynamic arg = arg ≡ args.Dynamic
HasOperands forms.NewPrim arg = (prim : PrimType) × (arg ≡ args.NewPrim prim)
HasOperands forms.Multi arg = HasDims arg
HasOperands forms.Jump2 arg = (target : ℕ) × (arg ≡ args.Jump target)
HasOperands forms.Jump4 arg = (target : ℕ) × (arg ≡ args.Jump target)
HasOperands forms.TableSwitch arg = (default : ℕ) × (low : ℤ) × (targets : List ℕ) × (arg ≡ args.Table default low targets)
HasOperands forms.LookupSwitch arg = (default : ℕ) × (cases : List (ℤ × ℕ)) × (arg ≡ args.Lookup default cases)
HasOperands forms.Wide arg = ⊥

-- the operands of an instruction are those of its opcode's row
abbrev pub HasRowOperands : Option OpForm → Arg → Type 0
HasRowOperands None arg = ⊥
HasRowOperands (Some row) arg = HasOperands row.form arg

abbrev pub HasOwnOperands : Insn → Type 0
HasOwnOperands insn = HasRowOperands (op_row insn.op) insn.arg
