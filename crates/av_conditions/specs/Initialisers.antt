-- The initialisers of application classes that an instruction may enter first (JVMS 5.5), and those of the
-- main class.
use Rattle.std.specs.Prelude.{◌≡◌, ℕ, ◌⊎◌, true, List, Some, codes, slice_get, Contains}
use Rattle.jv_table.specs.declared.ops.TheConstants.{GETSTATIC, PUTSTATIC, INVOKESTATIC, NEW}
use Rattle.jv_types.specs.declared.desc.RefType.{Class}
use Rattle.jv_types.specs.declared.ids.ClassId.{ClassId}
use Rattle.jv_types.specs.declared.ids.FieldId.{FieldId}
use Rattle.jv_types.specs.declared.ids.MethodId.{MethodId}
use Rattle.jv_types.specs.declared.instruction.Arg.TheVariants as args
use Rattle.jv_types.specs.declared.instruction.Insn.{Insn}
use Rattle.jv_types.specs.declared.shapes.MethodShape.{MethodShape}
use Rattle.jv_types.specs.declared.shapes.Shape.{Shape}
use Rattle.jv_world.specs.Worlds.{IsNamed, Sub}
use Rattle.jv_resolve.specs.Members.{DeclaresMethod, IsMethod, IsStatic}
use Rattle.av_conditions.specs.CoreClasses.{void_desc}
use Rattle.av_conditions.specs.Members.{RefersToField, RefersToMethod}

-- the name of class initialization methods (JVMS 2.9)
abbrev pub clinit_name : List ℕ
clinit_name = codes "<clinit>"

-- the class of this number is of the application
abbrev pub IsApplicationClass : List Shape → ℕ → Type 0
IsApplicationClass w c = (shape : Shape) × (slice_get w c ≡ Some shape) × (shape.application ≡ true)

-- the static `<clinit>()V` of an application class
pub record IsInitialiser (w : List Shape) (m : MethodId) : Type 0 where
  pub application : IsApplicationClass w m.class.number
  pub declared : DeclaresMethod w clinit_name void_desc m
  pub shape : MethodShape
  pub place : IsMethod w m shape
  pub static : IsStatic shape.flags

-- such a one of the class c, of a superclass or of a superinterface
pub record IsInitialiserOf (w : List Shape) (c : ℕ) (m : MethodId) : Type 0 where
  pub above : Sub w c m.class.number
  pub initialiser : IsInitialiser w m

-- the classes are c, its superclasses and its superinterfaces
pub record AreLine (w : List Shape) (c : ℕ) (line : List ClassId) : Type 0 where
  pub all : (d : ClassId) → Sub w c d.number → Contains line d
  pub only : (d : ClassId) → Contains line d → Sub w c d.number

-- the methods are the initialisers of the class c, of its superclasses and of its superinterfaces
pub record AreInitialisersOf (w : List Shape) (c : ℕ) (methods : List MethodId) : Type 0 where
  pub all : (m : MethodId) → IsInitialiserOf w c m → Contains methods m
  pub only : (m : MethodId) → Contains methods m → IsInitialiserOf w c m

-- the class that an instruction initialises: the named class for `new`, and the declarer of the resolved member
-- for getstatic, putstatic and invokestatic
pub data Initialises (w : List Shape) (insn : Insn) : ℕ → Type 0 where
  by_new : (c : ℕ) (name : List ℕ) → insn.op ≡ NEW → insn.arg ≡ args.Class (Class name) → IsNamed w c name → Initialises w insn c
  by_field : (f : FieldId) → (insn.op ≡ GETSTATIC) ⊎ (insn.op ≡ PUTSTATIC) → RefersToField w insn f → Initialises w insn f.class.number
  by_call : (m : MethodId) → insn.op ≡ INVOKESTATIC → RefersToMethod w insn m → Initialises w insn m.class.number

-- the instruction may first enter the initialiser
abbrev pub MayEnter : List Shape → Insn → MethodId → Type 0
MayEnter w insn m = (c : ℕ) × Initialises w insn c × IsInitialiserOf w c m

-- so may the start, before the method main
abbrev pub MayEnterFirst : List Shape → MethodId → MethodId → Type 0
MayEnterFirst w main m = IsInitialiserOf w main.class.number m
