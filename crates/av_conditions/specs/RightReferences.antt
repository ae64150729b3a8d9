-- References of instructions that resolve and are of the right kind: static or instance, class or interface,
-- and a class that `new` may make (JVMS 6.5).
use Rattle.std.specs.Prelude.{◌≡◌, ℕ, ◌<◌, ◌⊎◌, ◌↔◌, Bool, ◌==◌, ◌||◌, IsTrue, List, Some, bit_and, slice_get}
use Rattle.jv_table.specs.declared.ops.TheConstants.{GETSTATIC, PUTSTATIC, INVOKEVIRTUAL, INVOKESTATIC, INVOKEINTERFACE, NEW}
use Rattle.jv_types.specs.Bodies.{at_offset}
use Rattle.jv_types.specs.declared.body.Body.{Body}
use Rattle.jv_types.specs.declared.desc.RefType.{RefType, Class, PrimArray, Array', Row_of-RefType, end_of-RefType, more_of-RefType}
use Rattle.jv_types.specs.declared.ids.FieldId.{FieldId}
use Rattle.jv_types.specs.declared.ids.MethodId.{MethodId}
use Rattle.jv_types.specs.declared.instruction.Arg.{Arg}
use Rattle.jv_types.specs.declared.instruction.Arg.TheVariants as args
use Rattle.jv_types.specs.declared.instruction.Const.{Const}
use Rattle.jv_types.specs.declared.instruction.Const.TheVariants as consts
use Rattle.jv_types.specs.declared.instruction.Insn.{Insn}
use Rattle.jv_types.specs.declared.references.FieldRef.{FieldRef}
use Rattle.jv_types.specs.declared.references.MethodRef.{MethodRef}
use Rattle.jv_types.specs.declared.shapes.FieldShape.{FieldShape}
use Rattle.jv_types.specs.declared.shapes.MethodShape.{MethodShape}
use Rattle.jv_types.specs.declared.shapes.Shape.{Shape}
use Rattle.jv_world.specs.Worlds.{IsInterface, IsNamed}
use Rattle.jv_resolve.specs.Members.{IsAbstract, IsField, IsMethod, IsStatic}
use Rattle.jv_resolve.specs.Resolving.{ResolvesField}
use Rattle.av_conditions.specs.Members.{ResolvesCall}

-- ---- fields

-- the instruction reads or writes a static field
abbrev pub is_static_access : ℕ → Bool
is_static_access op = op == GETSTATIC || op == PUTSTATIC

-- the reference resolves to a field, which is static exactly where the instruction wants one
pub record IsRightField (w : List Shape) (op : ℕ) (r : FieldRef) : Type 0 where
  pub field : FieldId
  pub resolves : ResolvesField w r field
  pub shape : FieldShape
  pub place : IsField w field shape
  pub kind : IsTrue (is_static_access op) ↔ IsStatic shape.flags

-- ---- forms of calls

-- a reference to a method of an interface is what invokeinterface wants, and what invokevirtual doesn't
pub record IsRightForm (op : ℕ) (interface : Bool) : Type 0 where
  pub of_class : IsTrue (op == INVOKEVIRTUAL) → ¬ IsTrue interface
  pub of_interface : IsTrue (op == INVOKEINTERFACE) → IsTrue interface

-- ---- classes

-- the class or interface inside the type is there
abbrev mutual
  pub IsTypeThere : List Shape → RefType → Type 0
  IsTypeThere w (Class name) = (c : ℕ) × IsNamed w c name
  IsTypeThere w (PrimArray prim) = Unit {0}
  IsTypeThere w (Array' shape items) = IsItemThere w items

  pub IsItemThere : List Shape → {m : _} → Row_of-RefType m → Type 0
  IsItemThere w end_of-RefType = ⊥
  IsItemThere w (more_of-RefType item rest) = IsTypeThere w item

-- a class that `new` may make: neither an interface nor abstract
abbrev pub IsMakeable : Shape → Type 0
IsMakeable shape = ¬ IsInterface shape × ¬ IsAbstract shape.flags

-- the type is a class of the world that `new` may make
abbrev pub IsMakeableType : List Shape → RefType → Type 0
IsMakeableType w type = (name : List ℕ) × (c : ℕ) × (shape : Shape) × (type ≡ Class name) × (slice_get w c ≡ Some shape) × (shape.name ≡ name) × IsMakeable shape

-- the type of an instruction is there, and may be made by `new`
abbrev pub IsRightType : List Shape → ℕ → RefType → Type 0
IsRightType w op type = IsTypeThere w type × (IsTrue (op == NEW) → IsMakeableType w type)

-- ---- methods

-- The type that the reference names is there, and the reference resolves to a method, which is static exactly
-- where the instruction wants one. That invokestatic and invokespecial may name a method of an interface from
-- major version 52 on alone is asked where the version is known.
pub record IsRightCall (w : List Shape) (op : ℕ) (r : MethodRef) : Type 0 where
  pub there : IsTypeThere w r.class
  pub method : MethodId
  pub resolves : ResolvesCall w r method
  pub shape : MethodShape
  pub place : IsMethod w method shape
  pub kind : IsTrue (op == INVOKESTATIC) ↔ IsStatic shape.flags
  pub form : IsRightForm op r.interface

-- ---- instructions

-- the type of a loaded class is there
abbrev pub IsConstantThere : List Shape → Const → Type 0
IsConstantThere w (consts.Class type) = IsTypeThere w type
IsConstantThere w _ = Unit {0}

-- what the operands name is there and of the right kind for the opcode
abbrev pub AreRightOperands : List Shape → ℕ → Arg → Type 0
AreRightOperands w op (args.Field r) = IsRightField w op r
AreRightOperands w op (args.Method r) = IsRightCall w op r
AreRightOperands w op (args.Class type) = IsRightType w op type
AreRightOperands w op (args.Multi type dims) = IsTypeThere w type
AreRightOperands w op (args.Constant constant) = IsConstantThere w constant
AreRightOperands w op _ = Unit {0}

abbrev pub IsRightInsn : List Shape → Insn → Type 0
IsRightInsn w insn = AreRightOperands w insn.op insn.arg

-- each reference of a code is
pub record HasRightReferences (w : List Shape) (body : Body) : Type 0 where
  pub each : (pc : ℕ) (insn : Insn) → at_offset pc body.insns ≡ Some insn → IsRightInsn w insn

-- the least offset at which one is not
pub record IsFirstWrong (w : List Shape) (body : Body) (pc : ℕ) : Type 0 where
  pub insn : Insn
  pub stands : at_offset pc body.insns ≡ Some insn
  pub wrong : ¬ IsRightInsn w insn
  pub before : (start : ℕ) (other : Insn) → start < pc → at_offset start body.insns ≡ Some other → IsRightInsn w other
