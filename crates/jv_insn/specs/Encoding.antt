-- The code of a body over a constant pool, and which bodies are encoded (JVMS 4.7.3, 6.5).
use Rattle.std.specs.Prelude.{◌≡◌, ◌<◌, ◌≤◌, ◌+◌, ◌*◌, ◌⊎◌, ℕ, ℤ, pos, ◌+ℤ◌, ◌-ℤ◌, Bool, true, false, IsTrue, not, ◌==◌, if◌then◌else◌, List, [], ◌∷◌, ◌++◌, length, replicate, IsSomeAnd, unwrap_or}
use Rattle.std.specs.Int.{w8, w16, cast_unsigned}
use Rattle.std.specs.List.{flat_map, AllZip, AllByRecursion}
use Rattle.std.specs.Option.{option_map_or}
use Rattle.jv_bytes.specs.Numbers.{number_text}
use Rattle.jv_table.specs.CodeRows.{OpForm}
use Rattle.jv_table.specs.declared.code_tables.Form.{Form}
use Rattle.jv_table.specs.declared.ops.TheConstants.{LDC}
use Rattle.jv_table.specs.declared.atypes.TheConstants.{T_BOOLEAN, T_CHAR, T_FLOAT, T_DOUBLE, T_BYTE, T_SHORT, T_INT, T_LONG}
use Rattle.jv_table.specs.declared.code_tables.Form.TheVariants as forms
use Rattle.jv_types.specs.declared.raw_handler.RawHandler.{RawHandler}
use Rattle.jv_types.specs.declared.desc.PrimType.{PrimType}
use Rattle.jv_types.specs.declared.desc.PrimType.TheVariants.{Boolean, Char, Float, Double, Byte, Short, Int, Long}
use Rattle.jv_types.specs.declared.references.MethodRef.{MethodRef}
use Rattle.jv_types.specs.declared.instruction.Const.TheVariants as consts
use Rattle.jv_types.specs.declared.instruction.Arg.{Arg}
use Rattle.jv_types.specs.declared.instruction.Arg.TheVariants as args
use Rattle.jv_types.specs.declared.instruction.Insn.{Insn}
use Rattle.jv_types.specs.declared.body.Handler.{Handler}
use Rattle.jv_types.specs.declared.body.Body.{Body}
use Rattle.jv_types.specs.Bodies.{IsStart}
use Rattle.jv_desc.specs.Texts.{words_of}
use Rattle.jv_pool.specs.declared.item.PoolItem.{PoolItem}
use Rattle.jv_insn.specs.Effects.{op_row}
use Rattle.jv_insn.specs.declared.written.Written.{Written}
use Rattle.jv_insn.specs.Layouts.{s4_text, padding_at, head_text, IsInsnText}
use Rattle.jv_insn.specs.Meanings.{IsInsn}
use Rattle.jv_insn.specs.Decoding.{Catches, Decodes}
use Rattle.jv_insn.specs.Entries.{entry_of, arg_place, Grows}

-- ---- the text of operands

-- the form of an opcode. One that has no row has no operands.
abbrev pub form_of : ℕ → Form
form_of op = option_map_or (λ (row : OpForm). row.form) (op_row op) forms.Nothing

-- the numbers of a form take one byte each, and not two
abbrev pub is_narrow : Form → Bool → Bool
is_narrow forms.Local wide = not wide
is_narrow forms.Inc wide = not wide
is_narrow forms.Small1 wide = true
is_narrow forms.Load1 wide = true
is_narrow _ wide = false

-- a number, and a signed one, of one byte or of two
abbrev pub small_text : Bool → ℕ → List ℕ
small_text narrow number = number_text (if narrow then 1 else 2) number

abbrev pub signed_text : Bool → ℤ → List ℕ
signed_text narrow value = if narrow then number_text 1 (cast_unsigned w8 value) else number_text 2 (cast_unsigned w16 value)

-- what stands behind the index of a method: of an invokeinterface the words of the arguments with the
-- receiver, and 0
abbrev pub behind_method : Form → MethodRef → List ℕ
behind_method forms.InterfaceMethod method = number_text 1 (words_of method.desc true) ++ number_text 1 0
behind_method _ method = []

-- the code of a primitive type in newarray (JVMS table 6.5.newarray-A)
abbrev pub atype_of : PrimType → ℕ
atype_of Boolean = T_BOOLEAN
atype_of Char = T_CHAR
atype_of Float = T_FLOAT
atype_of Double = T_DOUBLE
atype_of Byte = T_BYTE
atype_of Short = T_SHORT
atype_of Int = T_INT
atype_of Long = T_LONG

-- the offset of a target from an instruction
abbrev pub branch_offset : ℕ → ℕ → ℤ
branch_offset pc target = pos target -ℤ pos pc

-- the offset of a jump, of two bytes or of four
abbrev pub jump_text : Form → ℤ → List ℕ
jump_text forms.Jump4 offset = s4_text offset
jump_text _ offset = number_text 2 (cast_unsigned w16 offset)

-- the bytes before the numbers of a switch are zeros
abbrev pub padding_text : ℕ → List ℕ
padding_text pc = replicate (padding_at (pc + 1)) 0

-- a tableswitch: its default, its low and its high value, and its other targets
abbrev pub table_text : ℕ → ℕ → ℤ → List ℕ → List ℕ
table_text pc default low targets =
    padding_text pc
    ++ (s4_text (branch_offset pc default) ++ (s4_text low ++ (s4_text (low +ℤ (pos (length targets) -ℤ pos 1)) ++ flat_map (λ (target : ℕ). s4_text (branch_offset pc target)) targets)))

-- a value of a lookupswitch and its target
abbrev pub case_text : ℕ → ℤ × ℕ → List ℕ
case_text pc case = s4_text case.0 ++ s4_text (branch_offset pc case.1)

-- a lookupswitch: its default, how many cases it has, and each case
abbrev pub lookup_text : ℕ → ℕ → List (ℤ × ℕ) → List ℕ
lookup_text pc default cases = padding_text pc ++ (s4_text (branch_offset pc default) ++ (number_text 4 (length cases) ++ flat_map (case_text pc) cases))

-- the operands of an instruction of a form, under wide or not, at an offset of the code, where what they name
-- stands at an index of the pool. Those of a call site that is linked at run time are left out of bodies, and
-- have no text here.
abbrev pub operand_text : Form → Bool → ℕ → Arg → ℕ → List ℕ
operand_text form wide pc (args.Local local) index = small_text (is_narrow form wide) local
operand_text form wide pc (args.Small value) index = signed_text (is_narrow form wide) value
operand_text form wide pc (args.Inc local by) index = small_text (is_narrow form wide) local ++ signed_text (is_narrow form wide) by
operand_text form wide pc (args.Constant constant) index = small_text (is_narrow form wide) index
operand_text form wide pc (args.Class type) index = number_text 2 index
operand_text form wide pc (args.Field field) index = number_text 2 index
operand_text form wide pc (args.Method method) index = number_text 2 index ++ behind_method form method
operand_text form wide pc (args.NewPrim prim) index = number_text 1 (atype_of prim)
operand_text form wide pc (args.Multi type dims) index = number_text 2 index ++ number_text 1 dims
operand_text form wide pc (args.Jump target) index = jump_text form (branch_offset pc target)
operand_text form wide pc (args.Table default low targets) index = table_text pc default low targets
operand_text form wide pc (args.Lookup default cases) index = lookup_text pc default cases
operand_text form wide pc args.Nothing index = []
operand_text form wide pc args.Dynamic index = []

-- ---- the text of a code

-- the index of what operands name, in a pool where that stands
abbrev pub index_in : List PoolItem → Arg → ℕ
index_in pool arg = unwrap_or (arg_place pool (entry_of arg)) 0

-- an instruction at its offset, over a pool where what it names stands
abbrev pub insn_text : List PoolItem → ℕ → Insn → List ℕ
insn_text pool pc insn = head_text insn.wide insn.op ++ operand_text (form_of insn.op) insn.wide pc insn.arg (index_in pool insn.arg)

-- the code of instructions, one behind the other, over a pool where all stands that they name
abbrev pub insns_text : List PoolItem → List (ℕ × Insn) → List ℕ
insns_text pool insns = flat_map (λ (row : ℕ × Insn). insn_text pool row.0 row.1) insns

-- ---- how long it is

-- a number takes one byte, or two
abbrev pub number_size : Bool → ℕ
number_size narrow = if narrow then 1 else 2

-- what stands behind the index of a method takes two bytes, in an invokeinterface
abbrev pub method_size : Form → ℕ
method_size forms.InterfaceMethod = 4
method_size _ = 2

abbrev pub jump_size : Form → ℕ
jump_size forms.Jump4 = 4
jump_size _ = 2

-- how many bytes the operands of an instruction of a form take, under wide or not, at an offset of the code
abbrev pub arg_size : Form → Bool → ℕ → Arg → ℕ
arg_size form wide pc (args.Local local) = number_size (is_narrow form wide)
arg_size form wide pc (args.Small value) = number_size (is_narrow form wide)
arg_size form wide pc (args.Inc local by) = number_size (is_narrow form wide) + number_size (is_narrow form wide)
arg_size form wide pc (args.Constant constant) = number_size (is_narrow form wide)
arg_size form wide pc (args.Class type) = 2
arg_size form wide pc (args.Field field) = 2
arg_size form wide pc (args.Method method) = method_size form
arg_size form wide pc (args.NewPrim prim) = 1
arg_size form wide pc (args.Multi type dims) = 3
arg_size form wide pc (args.Jump target) = jump_size form
arg_size form wide pc (args.Table default low targets) = padding_at (pc + 1) + (12 + 4 * length targets)
arg_size form wide pc (args.Lookup default cases) = padding_at (pc + 1) + (8 + 8 * length cases)
arg_size form wide pc args.Nothing = 0
arg_size form wide pc args.Dynamic = 4

-- how many bytes an instruction takes at an offset of the code (JVMS 6.5), over any pool
abbrev pub insn_size : ℕ → Insn → ℕ
insn_size pc insn = length (head_text insn.wide insn.op) + arg_size (form_of insn.op) insn.wide pc insn.arg

-- ---- which bodies are encoded

-- some code spells the body over some pool
pub record IsSpelled (body : Body) : Type 0 where
  pub pool : List PoolItem
  pub code : List ℕ
  pub handlers : List RawHandler
  pub decodes : Decodes pool body.max_stack body.max_locals code handlers body

-- operands of which a part is left out: a string, a method handle, a method type, or a call site that is linked
-- at run time
abbrev pub is_left_out : Arg → Bool
is_left_out (args.Constant consts.Text) = true
is_left_out (args.Constant consts.Handle) = true
is_left_out (args.Constant consts.MethodKind) = true
is_left_out args.Dynamic = true
is_left_out (args.Constant (consts.Int value)) = false
is_left_out (args.Constant (consts.Float bits)) = false
is_left_out (args.Constant (consts.Long value)) = false
is_left_out (args.Constant (consts.Double bits)) = false
is_left_out (args.Constant (consts.Class type)) = false
is_left_out args.Nothing = false
is_left_out (args.Local local) = false
is_left_out (args.Small value) = false
is_left_out (args.Inc local by) = false
is_left_out (args.Class type) = false
is_left_out (args.Field field) = false
is_left_out (args.Method method) = false
is_left_out (args.NewPrim prim) = false
is_left_out (args.Multi type dims) = false
is_left_out (args.Jump target) = false
is_left_out (args.Table default low targets) = false
is_left_out (args.Lookup default cases) = false

-- the constant of an ldc stands at an index of one byte
abbrev pub StandsNear : List PoolItem → Insn → Type 0
StandsNear pool insn = IsTrue (insn.op == LDC) → IsSomeAnd (arg_place pool (entry_of insn.arg)) (λ index. index ≤ 255)

-- some bytes over some pool spell this instruction at an offset, in a code whose instructions start where these
-- do and that has so many local variables
pub record MayStand (max_locals : ℕ) (insns : List (ℕ × Insn)) (pc : ℕ) (insn : Insn) : Type 0 where
  pub pool : List PoolItem
  pub rows : List (ℕ × Written)
  pub starts : (start : ℕ) → IsStart rows start → IsStart insns start
  pub written : Written
  pub text : List ℕ
  pub is_insn : IsInsn pool max_locals rows pc written insn
  pub is_text : IsInsnText pc text written

-- instructions stand one behind the other, from an offset to the end
abbrev pub AreLaid : ℕ → List (ℕ × Insn) → ℕ → Type 0
AreLaid pc [] end = pc ≡ end
AreLaid pc (row ∷ rows) end = (row.0 ≡ pc) × AreLaid (pc + insn_size pc row.1) rows end

-- a handler of a code of this length covers something, its bounds and its target are instructions, but that it
-- may end behind the code
pub record HasPlaces (insns : List (ℕ × Insn)) (length : ℕ) (handler : Handler) : Type 0 where
  pub covers : handler.start < handler.end
  pub starts : IsStart insns handler.start
  pub ends : IsStart insns handler.end ⊎ (handler.end ≡ length)
  pub leads : IsStart insns handler.target

-- The body may be encoded over a pool: its instructions fill its length, each of them and each handler may stand
-- there, no part of their operands is left out, and the constant of each ldc stands near. A body that some code
-- spells has all of this but the last two.
pub record MayEncode (pool : List PoolItem) (body : Body) : Type 0 where
  pub laid : AreLaid 0 body.insns body.length
  pub each : AllByRecursion (λ (row : ℕ × Insn). MayStand body.max_locals body.insns row.0 row.1) body.insns
  pub handlers : AllByRecursion (HasPlaces body.insns body.length) body.handlers
  pub whole : AllByRecursion (λ (row : ℕ × Insn). is_left_out row.1.arg ≡ false) body.insns
  pub near : AllByRecursion (λ (row : ℕ × Insn). StandsNear pool row.1) body.insns

-- ---- what its code is

-- an entry of the exception table has the places of a handler, and its index names what that catches
pub record NamesHandler (pool : List PoolItem) (raw : RawHandler) (handler : Handler) : Type 0 where
  pub start : handler.start ≡ raw.start
  pub end : handler.end ≡ raw.end
  pub target : handler.target ≡ raw.target
  pub catch : Catches pool raw.catch handler.catch

-- the code decodes to the body, with each exception table that names its handlers: over the pool, and over
-- each pool to which it grows
abbrev pub DecodesTo : List PoolItem → List ℕ → Body → Type 0
DecodesTo pool code body =
    (later : List PoolItem) (handlers : List RawHandler) → Grows pool later → AllZip (NamesHandler later) handlers body.handlers
    → Decodes later body.max_stack body.max_locals code handlers body
