-- Code with the frame before each instruction, and the instructions of which a stand-in's code consists.
use Rattle.std.specs.Prelude.{ℕ, zero, suc, false, List, [], ◌∷◌, ◌++◌, map}
use Rattle.jv_table.specs.declared.ops.TheConstants.{ICONST_0, LCONST_0, FCONST_0, DCONST_0, ALOAD, POP, POP2, IRETURN, LRETURN, FRETURN, DRETURN, GETSTATIC, PUTSTATIC, INVOKESPECIAL, CHECKCAST}
use Rattle.jv_types.specs.declared.desc.Desc.{Desc}
use Rattle.jv_types.specs.declared.desc.Desc.TheVariants as descs
use Rattle.jv_types.specs.declared.desc.PrimType.{PrimType}
use Rattle.jv_types.specs.declared.desc.PrimType.TheVariants as prims
use Rattle.jv_types.specs.declared.desc.RefType.{RefType}
use Rattle.jv_types.specs.declared.desc.RefType as refs
use Rattle.jv_types.specs.declared.instruction.Arg.{Arg}
use Rattle.jv_types.specs.declared.instruction.Arg.TheVariants as args
use Rattle.jv_types.specs.declared.instruction.Insn.{Insn}
use Rattle.jv_types.specs.declared.frames.VType.{VType}
use Rattle.jv_types.specs.declared.frames.VType as types
use Rattle.jv_types.specs.declared.frames.Frame.{Frame}
use Rattle.jv_types.specs.declared.ids.MethodId.{MethodId}
use Rattle.jv_world.specs.Worlds.{object_name}
use Rattle.jv_resolve.specs.Members.{init_name}
use Rattle.jv_frames.specs.Types.{desc_vtype, frame_of}
use Rattle.av_asm.specs.declared.step.Step.{Step}
use Rattle.av_asm.specs.declared.step.Step.TheVariants as steps
use Rattle.av_asm.specs.declared.step.Span.{Span}
use Rattle.av_asm.specs.Built.{Built}
use Rattle.av_conditions.specs.CoreClasses.{throwable_name}
use Rattle.av_conditions.specs.StandIn.{library_name, known_name, fresh_name, object_desc}
use Rattle.av_standin_of.specs.Names.{extra_desc}

-- ---- code

-- an instruction with the frame before it
pub record Row : Type 0 where
  pub step : Step
  pub frame : Frame

-- a method's code: how many words its arguments take, its instructions, and its handlers
pub record Code : Type 0 where
  pub words : ℕ
  pub rows : List Row
  pub spans : List Span

-- what a builder holds in which the code was put
abbrev pub built_of : MethodId → Code → Built
built_of method code = record {
  method = method;
  words = code.words;
  steps = map (λ (row : Row). row.step) code.rows;
  frames = map (λ (row : Row). row.frame) code.rows;
  spans = code.spans;
}

-- an instruction of a code with so many local variables, where these and stack items have these types, each once, the
-- topmost last
abbrev pub row : ℕ → List VType → List VType → Insn → Row
row words locals stack insn = record { step = steps.Put insn; frame = frame_of words locals stack }

-- ---- instructions

abbrev pub insn : ℕ → Arg → Insn
insn op arg = record { op = op; wide = false; arg = arg }

abbrev pub plain : ℕ → Insn
plain op = insn op args.Nothing

abbrev pub aload : ℕ → Insn
aload local = insn ALOAD (args.Local local)

-- a static field of averroes/Library
abbrev pub holder : ℕ → List ℕ → Insn
holder op name = insn op (args.Field (record { class = library_name; name = name; desc = object_desc }))

abbrev pub get_known : Insn
get_known = holder GETSTATIC known_name

abbrev pub put_known : Insn
put_known = holder PUTSTATIC known_name

abbrev pub get_fresh : Insn
get_fresh = holder GETSTATIC fresh_name

abbrev pub put_fresh : Insn
put_fresh = holder PUTSTATIC fresh_name

abbrev pub checkcast : RefType → Insn
checkcast type = insn CHECKCAST (args.Class type)

-- the extra constructor of a class is called
abbrev pub call_extra : List ℕ → Insn
call_extra class = insn INVOKESPECIAL (args.Method (record { class = refs.Class class; name = init_name; desc = extra_desc; interface = false }))

-- zero of a primitive type
abbrev pub zero_op : PrimType → ℕ
zero_op prims.Long = LCONST_0
zero_op prims.Float = FCONST_0
zero_op prims.Double = DCONST_0
zero_op _ = ICONST_0

-- a return of one
abbrev pub return_op : PrimType → ℕ
return_op prims.Long = LRETURN
return_op prims.Float = FRETURN
return_op prims.Double = DRETURN
return_op _ = IRETURN

-- a value of one is dropped
abbrev pub pop_op : PrimType → ℕ
pop_op prims.Long = POP2
pop_op prims.Double = POP2
pop_op _ = POP

-- ---- values

abbrev pub object_vtype : VType
object_vtype = types.Class object_name

abbrev pub throwable_vtype : VType
throwable_vtype = types.Class throwable_name

-- what is known, as a value of a reference type
abbrev pub known_as : ℕ → List VType → List VType → RefType → List Row
known_as words locals stack type = row words locals stack get_known ∷ row words locals (stack ++ object_vtype ∷ []) (checkcast type) ∷ []

-- a value of a type: what is known, or zero
abbrev pub value_of : ℕ → List VType → List VType → Desc → List Row
value_of words locals stack (descs.Ref type) = known_as words locals stack type
value_of words locals stack (descs.Prim prim) = row words locals stack (plain (zero_op prim)) ∷ []

-- such values, one behind the other
abbrev pub values_of : ℕ → List VType → List VType → List Desc → List Row
values_of words locals stack [] = []
values_of words locals stack (desc ∷ descs) = value_of words locals stack desc ++ values_of words locals (stack ++ desc_vtype desc ∷ []) descs

-- the same type of array in so many more dimensions
abbrev pub in_dims : ℕ → RefType → RefType
in_dims zero type = type
in_dims (suc dims) type = refs.Array (in_dims dims type)
