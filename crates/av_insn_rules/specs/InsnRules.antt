-- What single instructions are refused for (rules 16, 13, 11, 12 and 14), each rule at the least offset.
use Rattle.std.specs.Prelude.{◌≡◌, ◌<◌, ℕ, ◌⊎◌, Bool, true, ◌&&◌, ◌||◌, IsTrue, List, [], ◌∷◌, Some, codes, nat_eq}
use Rattle.std.specs.Cmp.Lexicographic.{pointwise}
use Rattle.jv_table.specs.declared.ops.TheConstants.{INVOKEDYNAMIC, INVOKESPECIAL, INVOKESTATIC, JSR, JSR_W, RET}
use Rattle.jv_types.specs.Bodies.{at_offset}
use Rattle.jv_types.specs.declared.body.Body.{Body}
use Rattle.jv_types.specs.declared.desc.RefType.{RefType, Class, PrimArray, Array', Row_of-RefType, end_of-RefType, more_of-RefType}
use Rattle.jv_types.specs.declared.ids.FieldId.{FieldId}
use Rattle.jv_types.specs.declared.ids.MethodId.{MethodId}
use Rattle.jv_types.specs.declared.instruction.Arg.{Arg}
use Rattle.jv_types.specs.declared.instruction.Arg.TheVariants as args
use Rattle.jv_types.specs.declared.instruction.Const.{Const}
use Rattle.jv_types.specs.declared.instruction.Const.TheVariants as consts
use Rattle.jv_types.specs.declared.instruction.Insn.{Insn}
use Rattle.jv_types.specs.declared.rule.Rule.{Rule}
use Rattle.jv_types.specs.declared.rule.Rule.TheVariants as rules
use Rattle.jv_types.specs.declared.shapes.MethodShape.{MethodShape}
use Rattle.jv_types.specs.declared.shapes.Shape.{Shape}
use Rattle.jv_world.specs.Worlds.{IsNamed}
use Rattle.jv_resolve.specs.Access.{IsClassAccessible, IsFieldAccessible, IsMethodAccessible}
use Rattle.jv_resolve.specs.Members.{IsMethod}
use Rattle.jv_resolve.specs.Resolving.{ResolvesField}
use Rattle.av_conditions.specs.Members.{RefersToMethod, ResolvesCall}
use Rattle.av_conditions.specs.RightReferences.{IsRightInsn}

-- ---- the rules

-- rule 16: jsr, ret or jsr_w
abbrev pub IsSubroutine : Insn → Type 0
IsSubroutine insn = (insn.op ≡ JSR) ⊎ (insn.op ≡ RET) ⊎ (insn.op ≡ JSR_W)

-- rule 13: invokedynamic, or a load of a MethodHandle or MethodType constant
abbrev pub IsDynamic : Insn → Type 0
IsDynamic insn = (insn.op ≡ INVOKEDYNAMIC) ⊎ (insn.arg ≡ args.Constant consts.Handle) ⊎ (insn.arg ≡ args.Constant consts.MethodKind)

-- the operand is a reference to a method of an interface (JVMS 4.4.2)
abbrev pub NamesInterfaceMethod : Arg → Type 0
NamesInterfaceMethod (args.Method r) = r.interface ≡ true
NamesInterfaceMethod _ = ⊥

-- an invokestatic or invokespecial names a method of an interface, which it may from major version 52 on alone
abbrev pub IsTooEarly : ℕ → Insn → Type 0
IsTooEarly major insn = (major < 52) × ((insn.op ≡ INVOKESTATIC) ⊎ (insn.op ≡ INVOKESPECIAL)) × NamesInterfaceMethod insn.arg

-- rule 11 asks this: what the instruction names is found and of the right kind, and it may name it in a class of this
-- major version
abbrev pub IsResolved : List Shape → ℕ → Insn → Type 0
IsResolved w major insn = IsRightInsn w insn × ¬ IsTooEarly major insn

-- the class of this name is accessible from the class `from`, where there is one (JVMS 5.4.4)
abbrev pub IsNameAccessible : List Shape → ℕ → List ℕ → Type 0
IsNameAccessible w from name = (c : ℕ) → IsNamed w c name → IsClassAccessible w from c

-- so is the class inside the type
abbrev mutual
  pub IsTypeAccessible : List Shape → ℕ → RefType → Type 0
  IsTypeAccessible w from (Class name) = IsNameAccessible w from name
  IsTypeAccessible w from (PrimArray prim) = Unit {0}
  IsTypeAccessible w from (Array' shape items) = IsItemAccessible w from items

  pub IsItemAccessible : List Shape → ℕ → {m : _} → Row_of-RefType m → Type 0
  IsItemAccessible w from end_of-RefType = ⊥
  IsItemAccessible w from (more_of-RefType item rest) = IsTypeAccessible w from item

abbrev pub IsConstantAccessible : List Shape → ℕ → Const → Type 0
IsConstantAccessible w from (consts.Class type) = IsTypeAccessible w from type
IsConstantAccessible w from _ = Unit {0}

-- what operands name is accessible from the class `from`, where it is found: a class, and a member by its reference
abbrev pub AreAccessible : List Shape → ℕ → Arg → Type 0
AreAccessible w from (args.Constant constant) = IsConstantAccessible w from constant
AreAccessible w from (args.Class type) = IsTypeAccessible w from type
AreAccessible w from (args.Multi type dims) = IsTypeAccessible w from type
AreAccessible w from (args.Field r) =
    IsNameAccessible w from r.class × ((f : FieldId) → ResolvesField w r f → IsFieldAccessible w from r f)
AreAccessible w from (args.Method r) =
    IsTypeAccessible w from r.class × ((m : MethodId) → ResolvesCall w r m → IsMethodAccessible w from r m)
AreAccessible w from _ = Unit {0}

-- rule 12 asks this
abbrev pub IsAccessible : List Shape → ℕ → Insn → Type 0
IsAccessible w from insn = AreAccessible w from insn.arg

-- the member of this class and name, with any descriptor
abbrev pub is_member : List ℕ → List ℕ → List ℕ → List ℕ → Bool
is_member class name of called = pointwise nat_eq class of && pointwise nat_eq name called

-- The members by which a program calls or makes what it names at run time: those of classes and class loaders, those
-- of java/lang/reflect that make objects and that use members, and others.
abbrev pub is_of_classes : List ℕ → List ℕ → Bool
is_of_classes class name =
    is_member class name (codes "java/lang/Class") (codes "forName")
    || is_member class name (codes "java/lang/Class") (codes "newInstance")
    || is_member class name (codes "java/lang/ClassLoader") (codes "loadClass")

abbrev pub is_of_makers : List ℕ → List ℕ → Bool
is_of_makers class name =
    is_member class name (codes "java/lang/reflect/Constructor") (codes "newInstance")
    || is_member class name (codes "java/lang/reflect/Proxy") (codes "newProxyInstance")
    || is_member class name (codes "java/lang/reflect/Array") (codes "newInstance")

abbrev pub is_of_members : List ℕ → List ℕ → Bool
is_of_members class name =
    is_member class name (codes "java/lang/reflect/Method") (codes "invoke")
    || is_member class name (codes "java/lang/reflect/Field") (codes "get")
    || is_member class name (codes "java/lang/reflect/Field") (codes "set")

abbrev pub is_of_others : List ℕ → List ℕ → Bool
is_of_others class name =
    is_member class name (codes "java/io/ObjectInputStream") (codes "readObject")
    || is_member class name (codes "java/util/ServiceLoader") (codes "load")
    || is_member class name (codes "java/lang/invoke/MethodHandle") (codes "invoke")
    || is_member class name (codes "java/lang/invoke/MethodHandle") (codes "invokeExact")

abbrev pub is_reflective : List ℕ → List ℕ → Bool
is_reflective class name = is_of_classes class name || is_of_makers class name || is_of_members class name || is_of_others class name

-- the method is one of them, by the name of the class that declares it and its own
pub record IsReflection (w : List Shape) (m : MethodId) : Type 0 where
  pub class : List ℕ
  pub named : IsNamed w m.class.number class
  pub shape : MethodShape
  pub place : IsMethod w m shape
  pub listed : IsTrue (is_reflective class shape.name)

-- rule 14: a call resolves to one of them
abbrev pub CallsReflection : List Shape → Insn → Type 0
CallsReflection w insn = (m : MethodId) × RefersToMethod w insn m × IsReflection w m

-- ---- their order

-- the rules that are asked of each instruction of a code, in their order
abbrev pub insn_rules : List Rule
insn_rules = rules.Subroutine ∷ rules.InvokeDynamic ∷ rules.Unresolved ∷ rules.NoAccess ∷ rules.Reflection ∷ []

-- an instruction of a class of this number and major version keeps the rule
abbrev pub Keeps : List Shape → ℕ → ℕ → Rule → Insn → Type 0
Keeps w from major rules.Subroutine insn = ¬ IsSubroutine insn
Keeps w from major rules.InvokeDynamic insn = ¬ IsDynamic insn
Keeps w from major rules.Unresolved insn = IsResolved w major insn
Keeps w from major rules.NoAccess insn = IsAccessible w from insn
Keeps w from major rules.Reflection insn = ¬ CallsReflection w insn
Keeps w from major _ insn = Unit {0}

-- each instruction of a code does
abbrev pub Everywhere : (Insn → Type 0) → Body → Type 0
Everywhere P body = (pc : ℕ) (insn : Insn) → at_offset pc body.insns ≡ Some insn → P insn

-- the least offset at which one does not
pub record IsFirstWithout (P : Insn → Type 0) (body : Body) (pc : ℕ) : Type 0 where
  pub insn : Insn
  pub stands : at_offset pc body.insns ≡ Some insn
  pub lacks : ¬ P insn
  pub before : (start : ℕ) (other : Insn) → start < pc → at_offset start body.insns ≡ Some other → P other

-- the first of these rules that an instruction of the code fails, and the least offset at which one does
abbrev pub FailsFirst : (Rule → Insn → Type 0) → List Rule → Body → Rule → ℕ → Type 0
FailsFirst keeps [] body rule pc = ⊥
FailsFirst keeps (next ∷ others) body rule pc =
    ((rule ≡ next) × IsFirstWithout (keeps next) body pc) ⊎ (Everywhere (keeps next) body × FailsFirst keeps others body rule pc)

-- no instruction of the code fails one of these rules
abbrev pub FailsNowhere : (Rule → Insn → Type 0) → List Rule → Body → Type 0
FailsNowhere keeps [] body = Unit {0}
FailsNowhere keeps (next ∷ others) body = Everywhere (keeps next) body × FailsNowhere keeps others body
