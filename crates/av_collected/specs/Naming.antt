-- What an application is here, and which classes its instructions name.
use Rattle.std.specs.Prelude.{◌≡◌, ℕ, ◌+◌, ◌⊎◌, List, Contains}
use Rattle.jv_table.specs.declared.ops.TheConstants.{ANEWARRAY}
use Rattle.jv_types.specs.declared.instruction.Arg.{Arg}
use Rattle.jv_types.specs.declared.instruction.Arg.TheVariants as args
use Rattle.jv_types.specs.declared.instruction.Const.{Const}
use Rattle.jv_types.specs.declared.instruction.Const.TheVariants as consts
use Rattle.jv_types.specs.declared.instruction.Insn.{Insn}
use Rattle.jv_types.specs.declared.shapes.Shape.{Shape}
use Rattle.jv_desc.specs.Texts.{ref_dims}
use Rattle.jv_two_worlds.specs.Types.{EndsIn}
use Rattle.av_collected.specs.declared.method_body.MethodBody.{MethodBody}
use Rattle.av_collected.specs.Types.{HasClass, MentionsClass, dims_of, MentionsDims}

-- The classes of an application, the types that its stack maps name (as Class items spell them), and the codes of
-- its methods as far as they decode.
pub record Application : Type 0 where
  pub shapes : List Shape
  pub maps : List (List ℕ)
  pub bodies : List MethodBody

-- the instruction is one of these codes
abbrev pub HasInsn : List MethodBody → Insn → Type 0
HasInsn bodies insn = (method : MethodBody) × (row : ℕ × Insn) × Contains bodies method × Contains method.body.insns row × (row.1 ≡ insn)

-- ---- classes

-- a constant names the class: that in the type of a Class constant. Those of a MethodHandle or MethodType constant
-- are left out.
abbrev pub ConstNames : Const → List ℕ → Type 0
ConstNames (consts.Class type) name = EndsIn type name
ConstNames _ name = ⊥

-- operands name the class: that in a type; of a reference to a member, also those in the member's descriptor
abbrev pub ArgNames : Arg → List ℕ → Type 0
ArgNames (args.Constant constant) name = ConstNames constant name
ArgNames (args.Class type) name = EndsIn type name
ArgNames (args.Multi type dims) name = EndsIn type name
ArgNames (args.Field r) name = (r.class ≡ name) ⊎ HasClass r.desc name
ArgNames (args.Method r) name = EndsIn r.class name ⊎ MentionsClass r.desc name
ArgNames _ name = ⊥

-- ---- dimensions

abbrev pub ConstHasDims : Const → ℕ → Type 0
ConstHasDims (consts.Class type) dims = dims ≡ ref_dims type
ConstHasDims _ dims = ⊥

-- the type of an instruction has so many dimensions, or the array that anewarray makes of items of this type
abbrev pub TypeHasDims : ℕ → ℕ → ℕ → Type 0
TypeHasDims op of_type dims = (dims ≡ of_type) ⊎ ((op ≡ ANEWARRAY) × (dims ≡ of_type + 1))

-- the operands name a type of so many dimensions, or have one in a descriptor, or an array of so many is made
abbrev pub ArgHasDims : ℕ → Arg → ℕ → Type 0
ArgHasDims op (args.Constant constant) dims = ConstHasDims constant dims
ArgHasDims op (args.Class type) dims = TypeHasDims op (ref_dims type) dims
ArgHasDims op (args.Multi type made) dims = dims ≡ ref_dims type
ArgHasDims op (args.Field r) dims = dims ≡ dims_of r.desc
ArgHasDims op (args.Method r) dims = (dims ≡ ref_dims r.class) ⊎ MentionsDims r.desc dims
ArgHasDims op _ dims = ⊥
