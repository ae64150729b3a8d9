-- What the operands of an instruction name: items of the constant pool, local variables, and places of the
-- code (JVMS 4.9.1, 6.5).
use Rattle.std.specs.Prelude.{◌≡◌, ◌<◌, ◌≤◌, ℕ, ℤ, pos, ◌+ℤ◌, Bool, true, false, IsTrue, ◌==◌, ◌||◌, List, Some}
use Rattle.std.specs.List.{AllZip}
use Rattle.std.specs.Ordering.{nat_cmp}
use Rattle.jv_table.specs.Rows.{row_of}
use Rattle.jv_table.specs.CodeRows.{OpForm, newarray_rows}
use Rattle.jv_table.specs.declared.code_tables.Form.{Form}
use Rattle.jv_table.specs.declared.ops.TheConstants.{IINC, RET, INVOKEVIRTUAL, NEW, ANEWARRAY}
use Rattle.jv_table.specs.declared.code_tables.Form.TheVariants as forms
use Rattle.jv_types.specs.declared.desc.PrimType.{PrimType}
use Rattle.jv_types.specs.declared.desc.RefType.{RefType}
use Rattle.jv_types.specs.declared.references.FieldRef.{FieldRef}
use Rattle.jv_types.specs.declared.references.MethodRef.{MethodRef}
use Rattle.jv_types.specs.declared.instruction.Const.{Const}
use Rattle.jv_types.specs.declared.instruction.Const.TheVariants as consts
use Rattle.jv_types.specs.declared.instruction.Arg.{Arg}
use Rattle.jv_types.specs.declared.instruction.Arg.TheVariants as args
use Rattle.jv_types.specs.declared.instruction.Insn.{Insn}
use Rattle.jv_types.specs.Bodies.{IsStart}
use Rattle.jv_desc.specs.Texts.{prim_letter, ref_dims, words_of}
use Rattle.jv_pool.specs.declared.item.PoolItem.{PoolItem}
use Rattle.jv_pool.specs.declared.item.PoolItem.TheVariants as items
use Rattle.jv_pool.specs.Lookups.{item_at}
use Rattle.jv_names.specs.Naming.{NamesType, NamesField, NamesMethod}
use Rattle.jv_insn.specs.declared.written.Operands.{Operands}
use Rattle.jv_insn.specs.declared.written.Operands.TheVariants.{Nothing, Local, Small, Inc, Index, Called, Site, NewPrim, Multi, Jump, Table, Lookup}
use Rattle.jv_insn.specs.declared.written.Written.{Written}
use Rattle.jv_insn.specs.Effects.{op_row, is_load, is_store, local_of}
use Rattle.jv_insn.specs.Forms.{is_category_2}

-- ---- constants

-- the index names this constant
abbrev pub NamesConst : List PoolItem → ℕ → Const → Type 0
NamesConst pool index (consts.Int value) = item_at pool index ≡ Some (items.Integer value)
NamesConst pool index (consts.Float bits) = item_at pool index ≡ Some (items.Float bits)
NamesConst pool index (consts.Long value) = item_at pool index ≡ Some (items.Long value)
NamesConst pool index (consts.Double bits) = item_at pool index ≡ Some (items.Double bits)
NamesConst pool index consts.Text = (text : ℕ) × (item_at pool index ≡ Some (items.Text text))
NamesConst pool index (consts.Class type) = NamesType pool index type
NamesConst pool index consts.Handle = (kind : ℕ) × (member : ℕ) × (item_at pool index ≡ Some (items.MethodHandle kind member))
NamesConst pool index consts.MethodKind = (desc : ℕ) × (item_at pool index ≡ Some (items.MethodType desc))

-- ---- places

-- an offset from an instruction leads to the start of one of the code's instructions
pub record LeadsTo {I : Type 0} (rows : List (ℕ × I)) (pc : ℕ) (offset : ℤ) (target : ℕ) : Type 0 where
  pub distance : pos pc +ℤ offset ≡ pos target
  pub starts : IsStart rows target

-- a value of a lookupswitch stays, and its offset leads to its target
pub record LeadsCase {I : Type 0} (rows : List (ℕ × I)) (pc : ℕ) (read : ℤ × ℤ) (case : ℤ × ℕ) : Type 0 where
  pub value : case.0 ≡ read.0
  pub leads : LeadsTo rows pc read.1 case.1

-- ---- an instruction's operands

-- a `new` names no array, and the type of an anewarray has at most 254 dimensions, so that its arrays have
-- at most 255 (JVMS 4.9.1)
abbrev pub FitsOp : ℕ → RefType → Type 0
FitsOp op type = (IsTrue (op == NEW) → ref_dims type ≡ 0) × (IsTrue (op == ANEWARRAY) → ref_dims type ≤ 254)

-- an invokevirtual names no method of an interface
abbrev pub MayCall : ℕ → MethodRef → Type 0
MayCall op method = IsTrue (op == INVOKEVIRTUAL) → method.interface ≡ false

-- an invokeinterface names a method of an interface, and the two bytes behind its index are the words of the
-- arguments with the receiver, and 0
pub record IsCalled (words last : ℕ) (method : MethodRef) : Type 0 where
  pub interface : method.interface ≡ true
  pub words_are : words ≡ words_of method.desc true
  pub last_is : last ≡ 0

-- what the index of a load names, a constant of one word or of two
abbrev pub NamesLoad : List PoolItem → ℕ → Bool → Arg → Type 0
NamesLoad pool index two arg = (const : Const) × (arg ≡ args.Constant const) × NamesConst pool index const × (is_category_2 const ≡ two)

-- what an index of the pool names by the form of the opcode
abbrev pub NamesArg : Form → List PoolItem → ℕ → ℕ → Arg → Type 0
NamesArg forms.Load1 pool op index arg = NamesLoad pool index false arg
NamesArg forms.Load2 pool op index arg = NamesLoad pool index false arg
NamesArg forms.LoadTwo pool op index arg = NamesLoad pool index true arg
NamesArg forms.Class pool op index arg = (type : RefType) × (arg ≡ args.Class type) × NamesType pool index type × FitsOp op type
NamesArg forms.Field pool op index arg = (field : FieldRef) × (arg ≡ args.Field field) × NamesField pool index field
NamesArg forms.Method pool op index arg =
    (method : MethodRef) × (arg ≡ args.Method method) × NamesMethod pool index method × MayCall op method
NamesArg _ pool op index arg = ⊥

-- what an invokeinterface names
abbrev pub NamesCalled : List PoolItem → ℕ → ℕ → ℕ → Arg → Type 0
NamesCalled pool index words last arg =
    (method : MethodRef) × (arg ≡ args.Method method) × NamesMethod pool index method × IsCalled words last method

-- an invokedynamic names a call site
abbrev pub NamesSite : List PoolItem → ℕ → Arg → Type 0
NamesSite pool index arg = (bootstrap : ℕ) × (pair : ℕ) × (item_at pool index ≡ Some (items.InvokeDynamic bootstrap pair)) × (arg ≡ args.Dynamic)

-- the primitive type of a code of newarray
abbrev pub NamesPrim : ℕ → Arg → Type 0
NamesPrim code arg = (prim : PrimType) × (arg ≡ args.NewPrim prim) × (row_of nat_cmp code newarray_rows ≡ Some (prim_letter prim))

-- a multianewarray makes no more dimensions than its type has
abbrev pub NamesMulti : List PoolItem → ℕ → ℕ → Arg → Type 0
NamesMulti pool index dims arg = (type : RefType) × (arg ≡ args.Multi type dims) × NamesType pool index type × (dims ≤ ref_dims type)

-- where a jump leads, and a switch
abbrev pub NamesJump : {I : Type 0} → List (ℕ × I) → ℕ → ℤ → Arg → Type 0
NamesJump rows pc offset arg = (target : ℕ) × (arg ≡ args.Jump target) × LeadsTo rows pc offset target

abbrev pub NamesTable : {I : Type 0} → List (ℕ × I) → ℕ → ℤ → ℤ → List ℤ → Arg → Type 0
NamesTable rows pc default low offsets arg =
    (first : ℕ) × (targets : List ℕ) × (arg ≡ args.Table first low targets) × LeadsTo rows pc default first × AllZip (LeadsTo rows pc) offsets targets

abbrev pub NamesLookup : {I : Type 0} → List (ℕ × I) → ℕ → ℤ → List (ℤ × ℤ) → Arg → Type 0
NamesLookup rows pc default cases arg =
    (first : ℕ) × (targets : List (ℤ × ℕ)) × (arg ≡ args.Lookup first targets) × LeadsTo rows pc default first × AllZip (LeadsCase rows pc) cases targets

-- what the operands that are written name
abbrev pub NamesOperands : {I : Type 0} → List PoolItem → List (ℕ × I) → ℕ → ℕ → Form → Operands → Arg → Type 0
NamesOperands pool rows pc op form Nothing arg = arg ≡ args.Nothing
NamesOperands pool rows pc op form (Local local) arg = arg ≡ args.Local local
NamesOperands pool rows pc op form (Small value) arg = arg ≡ args.Small value
NamesOperands pool rows pc op form (Inc local by) arg = arg ≡ args.Inc local by
NamesOperands pool rows pc op form (Index index) arg = NamesArg form pool op index arg
NamesOperands pool rows pc op form (Called index words last) arg = NamesCalled pool index words last arg
NamesOperands pool rows pc op form (Site index first second) arg = NamesSite pool index arg
NamesOperands pool rows pc op form (NewPrim code) arg = NamesPrim code arg
NamesOperands pool rows pc op form (Multi index dims) arg = NamesMulti pool index dims arg
NamesOperands pool rows pc op form (Jump offset) arg = NamesJump rows pc offset arg
NamesOperands pool rows pc op form (Table default low offsets) arg = NamesTable rows pc default low offsets arg
NamesOperands pool rows pc op form (Lookup default cases) arg = NamesLookup rows pc default cases arg

-- ---- an instruction

-- the instruction names a local variable: a load, a store, an iinc or a ret
abbrev pub has_local : ℕ → Bool
has_local op = is_load op || (is_store op || (op == IINC || op == RET))

-- what an instruction that is written is, among the rows of its code, with so many local variables
pub record IsInsn {I : Type 0} (pool : List PoolItem) (max_locals : ℕ) (rows : List (ℕ × I)) (pc : ℕ) (written : Written) (insn : Insn) : Type 0 where
  pub op : insn.op ≡ written.op
  pub wide : insn.wide ≡ written.wide
  pub form : OpForm
  pub known : op_row written.op ≡ Some form
  pub arg : NamesOperands pool rows pc written.op form.form written.operands insn.arg
  pub local : IsTrue (has_local insn.op) → local_of insn.op insn.arg < max_locals
