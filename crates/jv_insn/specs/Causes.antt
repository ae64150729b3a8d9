-- Why a code of a class is refused at an offset, each cause under its own name (JVMS 4.7.3, 4.9.1, 6.5).
use Rattle.std.specs.Prelude.{◌≡◌, ◌<◌, ◌≤◌, ◌⊎◌, ℕ, ℤ, Bool, true, false, IsTrue, not, ◌==◌, ◌&&◌, ◌||◌, List, [], ◌∷◌, length, map, Contains, Option, Some, None}
use Rattle.std.specs.List.{AllByRecursion}
use Rattle.jv_table.specs.declared.code_tables.Form.{Form}
use Rattle.jv_table.specs.declared.code_tables.Form.TheVariants as forms
use Rattle.jv_table.specs.declared.ops.TheConstants.{INVOKEVIRTUAL, NEW, ANEWARRAY}
use Rattle.jv_types.specs.declared.raw_handler.RawHandler.{RawHandler}
use Rattle.jv_types.specs.declared.desc.RefType.{RefType}
use Rattle.jv_types.specs.declared.references.MethodRef.{MethodRef}
use Rattle.jv_types.specs.declared.instruction.Arg.TheVariants as args
use Rattle.jv_types.specs.Bodies.{IsStart, at_offset}
use Rattle.jv_desc.specs.Texts.{ref_dims, words_of}
use Rattle.jv_pool.specs.declared.item.PoolItem.{PoolItem}
use Rattle.jv_pool.specs.declared.item.PoolItem.TheVariants as items
use Rattle.jv_pool.specs.Lookups.{item_at, names, is_class}
use Rattle.jv_pool.specs.PoolText.{is_wide, is_field, is_method, is_interface_method, IsPool}
use Rattle.jv_names.specs.Naming.{NamesType, NamesMethod}
use Rattle.jv_names.specs.PoolNames.{IsNamedPool}
use Rattle.jv_insn.specs.declared.written.Operands.{Operands}
use Rattle.jv_insn.specs.declared.written.Operands.TheVariants.{Local, Inc, Index, Called, Site, Multi, Jump, Table, Lookup}
use Rattle.jv_insn.specs.declared.written.Written.{Written}
use Rattle.jv_insn.specs.Effects.{local_of}
use Rattle.jv_insn.specs.Layouts.{Lays}
use Rattle.jv_insn.specs.Meanings.{has_local, LeadsTo}
use Rattle.jv_insn.specs.Encoding.{form_of}

-- ---- a class

-- what a class file keeps of its pool and of an exception table: the items of the pool name each other by the
-- right tags, names and descriptors are in their form, and what a handler catches is 0 or names a class
pub record IsOfClass (pool : List PoolItem) (handlers : List RawHandler) : Type 0 where
  pub is_pool : IsPool pool
  pub named : IsNamedPool pool
  pub catches : AllByRecursion (λ (handler : RawHandler). (handler.catch ≡ 0) ⊎ IsTrue (names is_class pool handler.catch)) handlers

-- the index names an array type
pub record NamesArray (pool : List PoolItem) (index : ℕ) : Type 0 where
  pub type : RefType
  pub named : NamesType pool index type
  pub some : 0 < ref_dims type

-- ---- what is written

-- the index of the pool among operands
abbrev pub pool_index : Operands → Option ℕ
pool_index (Index index) = Some index
pool_index (Called index words last) = Some index
pool_index (Site index first second) = Some index
pool_index (Multi index dims) = Some index
pool_index _ = None

-- the offsets among operands, the default first
abbrev pub offsets_of : Operands → List ℤ
offsets_of (Jump offset) = offset ∷ []
offsets_of (Table default low offsets) = default ∷ offsets
offsets_of (Lookup default cases) = default ∷ map (λ (case : ℤ × ℤ). case.1) cases
offsets_of _ = []

-- the local variable that an instruction names, by its operands or by its opcode alone
abbrev pub local_written : ℕ → Operands → ℕ
local_written op (Local local) = local
local_written op (Inc local by) = local
local_written op _ = local_of op args.Nothing

-- a constant of one word, as ldc and ldc_w load it
abbrev pub is_narrow_constant : PoolItem → Bool
is_narrow_constant (items.Integer value) = true
is_narrow_constant (items.Float bits) = true
is_narrow_constant (items.Text text) = true
is_narrow_constant (items.Class name) = true
is_narrow_constant (items.MethodHandle kind member) = true
is_narrow_constant (items.MethodType desc) = true
is_narrow_constant _ = false

abbrev pub is_call_site : PoolItem → Bool
is_call_site (items.InvokeDynamic bootstrap pair) = true
is_call_site _ = false

-- the item has the tag that an instruction of this layout asks for: an invokevirtual asks for a method of a
-- class, an invokeinterface for one of an interface, and the others take both
abbrev pub has_tag : Form → ℕ → PoolItem → Bool
has_tag forms.Load1 op item = is_narrow_constant item
has_tag forms.Load2 op item = is_narrow_constant item
has_tag forms.LoadTwo op item = is_wide item
has_tag forms.Class op item = is_class item
has_tag forms.Field op item = is_field item
has_tag forms.Method op item = is_method item || (not (op == INVOKEVIRTUAL) && is_interface_method item)
has_tag forms.InterfaceMethod op item = is_interface_method item
has_tag forms.Dynamic op item = is_call_site item
has_tag forms.Multi op item = is_class item
has_tag _ op item = false

-- ---- the causes

pub data Cause : Type 0 where
  BreaksOff : Cause
  WrongTag : Cause
  LeadsNowhere : Cause
  LocalTooHigh : Cause
  WrongLastBytes : Cause
  FieldOfArray : Cause
  NewOfArray : Cause
  TooManyDims : Cause
  MissingDims : Cause
  EmptyRange : Cause
  StartNowhere : Cause
  EndNowhere : Cause
  TargetNowhere : Cause
  CatchOfArray : Cause

-- an instruction is written at the offset, and has this
abbrev pub AtInsn : List (ℕ × Written) → ℕ → (Written → Type 0) → Type 0
AtInsn rows pc P = (written : Written) × (at_offset pc rows ≡ Some written) × P written

-- an entry of the exception table starts at the offset, and has this
abbrev pub AtEntry : List RawHandler → ℕ → (RawHandler → Type 0) → Type 0
AtEntry handlers pc P = (handler : RawHandler) × Contains handlers handler × (handler.start ≡ pc) × P handler

-- an instruction names an item of the pool by an index, and this holds of the index
abbrev pub AtIndex : Written → (ℕ → Type 0) → Type 0
AtIndex written P = (index : ℕ) × (pool_index written.operands ≡ Some index) × P index

-- what a cause says of an offset of a code of this length: the code is laid as these rows, and breaks off or not
abbrev pub IsCause : Cause → List PoolItem → ℕ → List (ℕ × Written) → Option ℕ → ℕ → List RawHandler → ℕ → Type 0
-- bytes are left there, and no instruction stands in front of them
IsCause BreaksOff pool max_locals rows end size handlers pc = end ≡ Some pc
-- an index of the pool names nothing, or an item of another tag than the instruction asks for
IsCause WrongTag pool max_locals rows end size handlers pc =
    AtInsn rows pc (λ written. AtIndex written (λ index. names (has_tag (form_of written.op) written.op) pool index ≡ false))
-- an offset of a jump or of a switch leads to no instruction
IsCause LeadsNowhere pool max_locals rows end size handlers pc =
    AtInsn rows pc (λ written. (offset : ℤ) × Contains (offsets_of written.operands) offset × ((target : ℕ) → LeadsTo rows pc offset target → ⊥))
-- a local variable isn't below the number of local variables
IsCause LocalTooHigh pool max_locals rows end size handlers pc =
    AtInsn rows pc (λ written. IsTrue (has_local written.op) × (max_locals ≤ local_written written.op written.operands))
-- the last two bytes of an invokeinterface aren't the words of the arguments with the receiver, and 0
IsCause WrongLastBytes pool max_locals rows end size handlers pc =
    AtInsn rows pc (λ written. (index : ℕ) × (words : ℕ) × (last : ℕ) × (method : MethodRef) × (written.operands ≡ Called index words last)
    × NamesMethod pool index method × ((words ≡ words_of method.desc true) → (last ≡ 0) → ⊥))
-- an instruction names a field of an array type
IsCause FieldOfArray pool max_locals rows end size handlers pc =
    AtInsn rows pc (λ written. (form_of written.op ≡ forms.Field) × AtIndex written (λ index. (class : ℕ) × (pair : ℕ) × (item_at pool index ≡ Some (items.Field class pair)) × NamesArray pool class))
-- a `new` names an array type
IsCause NewOfArray pool max_locals rows end size handlers pc =
    AtInsn rows pc (λ written. IsTrue (written.op == NEW) × AtIndex written (NamesArray pool))
-- the type of an anewarray has 255 dimensions, and its array would have one more
IsCause TooManyDims pool max_locals rows end size handlers pc =
    AtInsn rows pc (λ written. IsTrue (written.op == ANEWARRAY) × AtIndex written (λ index. (type : RefType) × NamesType pool index type × (ref_dims type ≡ 255)))
-- a multianewarray makes more dimensions than its type has
IsCause MissingDims pool max_locals rows end size handlers pc =
    AtInsn rows pc (λ written. (index : ℕ) × (dims : ℕ) × (type : RefType) × (written.operands ≡ Multi index dims) × NamesType pool index type × (ref_dims type < dims))
-- the start of an entry isn't below its end
IsCause EmptyRange pool max_locals rows end size handlers pc = AtEntry handlers pc (λ handler. handler.end ≤ handler.start)
-- the start, the end or the handler of an entry is at no instruction. The end may be that of the code.
IsCause StartNowhere pool max_locals rows end size handlers pc = AtEntry handlers pc (λ handler. IsStart rows handler.start → ⊥)
IsCause EndNowhere pool max_locals rows end size handlers pc = AtEntry handlers pc (λ handler. IsStart rows handler.end ⊎ (handler.end ≡ size) → ⊥)
IsCause TargetNowhere pool max_locals rows end size handlers pc = AtEntry handlers pc (λ handler. IsStart rows handler.target → ⊥)
-- an entry catches an array type
IsCause CatchOfArray pool max_locals rows end size handlers pc = AtEntry handlers pc (λ handler. (0 < handler.catch) × NamesArray pool handler.catch)

-- a code has a cause of refusal at an offset
pub record IsRefusedAt (pool : List PoolItem) (max_locals : ℕ) (code : List ℕ) (handlers : List RawHandler) (pc : ℕ) : Type 0 where
  pub rows : List (ℕ × Written)
  pub end : Option ℕ
  pub laid : Lays 0 code rows end
  pub cause : Cause
  pub holds : IsCause cause pool max_locals rows end (length code) handlers pc

-- the least offset at which it has one
pub record IsFirstCause (pool : List PoolItem) (max_locals : ℕ) (code : List ℕ) (handlers : List RawHandler) (pc : ℕ) : Type 0 where
  pub caused : IsRefusedAt pool max_locals code handlers pc
  pub least : (other : ℕ) → IsRefusedAt pool max_locals code handlers other → pc ≤ other
