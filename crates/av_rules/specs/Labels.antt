-- Labels of objects: where they are made, the types that are made there, and what a label passes.
use Rattle.std.specs.Prelude.{◌≡◌, ◌<◌, ℕ, ◌+◌, ◌⊎◌, List, Some, Contains}
use Rattle.jv_table.specs.declared.ops.TheConstants.{NEW, NEWARRAY, ANEWARRAY, MULTIANEWARRAY}
use Rattle.jv_types.specs.Bodies.{at_offset}
use Rattle.jv_types.specs.declared.desc.RefType.{RefType}
use Rattle.jv_types.specs.declared.desc.RefType as types
use Rattle.jv_types.specs.declared.frames.FramedBody.{FramedBody}
use Rattle.jv_types.specs.declared.ids.ClassId.{ClassId}
use Rattle.jv_types.specs.declared.ids.MethodId.{MethodId}
use Rattle.jv_types.specs.declared.instruction.Arg.{Arg}
use Rattle.jv_types.specs.declared.instruction.Arg.TheVariants as args
use Rattle.jv_types.specs.declared.instruction.Insn.{Insn}
use Rattle.jv_types.specs.declared.label.Label.{Label}
use Rattle.jv_types.specs.declared.label.Label.TheVariants.{Site, Lib}
use Rattle.jv_types.specs.declared.label.LibBase.{LibBase}
use Rattle.jv_types.specs.declared.label.LibBase.TheVariants as bases
use Rattle.jv_types.specs.declared.shapes.Shape.{Shape}
use Rattle.av_conditions.specs.CoreClasses.{throwable_name}
use Rattle.av_conditions.specs.Initialisers.{IsApplicationClass}
use Rattle.av_rules.specs.declared.flat_type.FlatType.{FlatType}
use Rattle.av_rules.specs.FlatTypes.{IsFlat, IsInstanceOfFlat}
use Rattle.av_rules.specs.StandInClasses.{IsAnyClass, IsAnyClassOf, IsFinalClass, IsLibraryClass}
use Rattle.av_rules.specs.Program.{Program, Point, method_of}

-- ---- allocations

-- a `new` makes objects of its class, and an anewarray arrays of its type
abbrev pub MakesOf : List Shape → ℕ → RefType → FlatType → Type 0
MakesOf w op type made = ((op ≡ NEW) × IsFlat w type made × (made.dims ≡ 0)) ⊎ ((op ≡ ANEWARRAY) × IsFlat w (types.Array type) made)

-- the arrays that have so many new arrays of the type around
abbrev pub IsInner : List Shape → RefType → ℕ → FlatType → Type 0
IsInner w type depth made = (whole : FlatType) × IsFlat w type whole × (made.base ≡ whole.base) × (made.dims + depth ≡ whole.dims)

-- What an instruction of this opcode makes at a depth (JVMS 6.5, new, newarray, anewarray and multianewarray). The
-- depth is the number of new arrays around. It is 0 but for multianewarray, which makes as many dimensions as its
-- operand says.
abbrev pub MakesBy : List Shape → ℕ → Arg → ℕ → FlatType → Type 0
MakesBy w op (args.Class type) depth made = (depth ≡ 0) × MakesOf w op type made
MakesBy w op (args.NewPrim prim) depth made = (depth ≡ 0) × (op ≡ NEWARRAY) × IsFlat w (types.PrimArray prim) made
MakesBy w op (args.Multi type count) depth made = (depth < count) × (op ≡ MULTIANEWARRAY) × IsInner w type depth made
MakesBy w op _ depth made = ⊥

-- an instruction makes objects of this type at this depth
abbrev pub Makes : List Shape → Insn → ℕ → FlatType → Type 0
Makes w insn depth made = MakesBy w insn.op insn.arg depth made

-- ---- the type of a label

-- an instruction of an application method whose code is given makes objects of this type at this depth
pub record IsSiteType (p : Program) (m : MethodId) (pc depth : ℕ) (made : FlatType) : Type 0 where
  pub framed : FramedBody
  pub given : Contains p.methods framed
  pub of_method : framed.method ≡ m
  pub application : IsApplicationClass p.world m.class.number
  pub insn : Insn
  pub stands : at_offset pc framed.body.insns ≡ Some insn
  pub makes : Makes p.world insn depth made

-- the class of the stand-in's objects of a library class: that of any object, or a final class itself. There is
-- none of an interface or of an application class.
abbrev pub IsMadeClass : List Shape → ClassId → ClassId → Type 0
IsMadeClass w c made =
    IsAnyClassOf w c.number made.number ⊎ ((class : Shape) × IsFinalClass w c.number class × (made ≡ c))

-- the type of the objects of a base, where there are such objects: a primitive type has only arrays
abbrev pub IsLibType : List Shape → LibBase → ℕ → FlatType → Type 0
IsLibType w (bases.Class c) dims made = (own : ClassId) × IsMadeClass w c own × (made ≡ record { base = bases.Class own; dims = dims })
IsLibType w (bases.Prim prim) dims made = (0 < dims) × (made ≡ record { base = bases.Prim prim; dims = dims })

-- The type of a label: that which is made at its site, or that of the stand-in's objects. A label may have none.
abbrev pub IsTypeOf : Program → Label → FlatType → Type 0
IsTypeOf p (Site m pc depth) made = IsSiteType p m pc depth made
IsTypeOf p (Lib base dims) made = IsLibType p.world base dims made

-- ---- the label of an allocation

-- The base of what the stand-in makes: a class of any object counts as the class that it stands for, and a final
-- class as itself.
abbrev pub IsLibBase : List Shape → LibBase → LibBase → Type 0
IsLibBase w (bases.Class own) base =
    ((c : ClassId) × IsAnyClassOf w c.number own.number × (base ≡ bases.Class c))
    ⊎ ((class : Shape) × IsFinalClass w own.number class × ¬ IsAnyClass w own.number × (base ≡ bases.Class own))
IsLibBase w (bases.Prim prim) base = base ≡ bases.Prim prim

-- the label of what a method of the stand-in makes
abbrev pub IsLibLabel : List Shape → FlatType → Label → Type 0
IsLibLabel w made label = (base : LibBase) × IsLibBase w made.base base × (label ≡ Lib base made.dims)

-- The label of the objects that the instruction of a program point makes at a depth: in an application method its
-- site, and in a method of the stand-in what it makes.
abbrev pub IsLabelAt : Program → Point → ℕ → Label → Type 0
IsLabelAt p at depth label =
    (made : FlatType) × Makes p.world at.insn depth made
    × ((IsApplicationClass p.world (method_of at).class.number × (label ≡ Site (method_of at) at.pc depth))
    ⊎ (IsLibraryClass p.world (method_of at).class.number × IsLibLabel p.world made label))

-- ---- tests

-- a label passes a type: the label has a type, each of whose objects is an instance of that one
pub record PassesFlat (p : Program) (label : Label) (of : FlatType) : Type 0 where
  pub made : FlatType
  pub typed : IsTypeOf p label made
  pub instance : IsInstanceOfFlat p.world made of

abbrev pub Passes : Program → Label → RefType → Type 0
Passes p label type = (of : FlatType) × IsFlat p.world type of × PassesFlat p label of

-- Throwable
abbrev pub throwable_type : RefType
throwable_type = types.Class throwable_name

-- a class of any object counts as the class that it stands for
abbrev pub IsSeenAs : List Shape → LibBase → LibBase → Type 0
IsSeenAs w (bases.Class c) base =
    ((d : ClassId) × IsAnyClassOf w d.number c.number × (base ≡ bases.Class d)) ⊎ (¬ IsAnyClass w c.number × (base ≡ bases.Class c))
IsSeenAs w (bases.Prim prim) base = base ≡ bases.Prim prim

-- it is a type of references: a class, or an array
abbrev pub IsReferenceFlat : FlatType → Type 0
IsReferenceFlat type = ((c : ClassId) × (type.base ≡ bases.Class c)) ⊎ (0 < type.dims)

-- What may stand in arrays of the one type is the other: the type of their items, where a class of any object counts as
-- the class that it stands for. It is a type of references.
pub record AreItems (w : List Shape) (made bound : FlatType) : Type 0 where
  pub array : made.dims ≡ bound.dims + 1
  pub seen : IsSeenAs w made.base bound.base
  pub references : IsReferenceFlat bound

-- The bound of a label: what may stand in its arrays of references. Other labels have none.
abbrev pub IsBound : Program → Label → FlatType → Type 0
IsBound p label bound = (made : FlatType) × IsTypeOf p label made × AreItems p.world made bound

-- a label of arrays of references
abbrev pub HasItems : Program → Label → Type 0
HasItems p label = (bound : FlatType) × IsBound p label bound

-- objects of the one label may stand in the arrays of the other
abbrev pub MayStandIn : Program → Label → Label → Type 0
MayStandIn p item array = (bound : FlatType) × IsBound p array bound × PassesFlat p item bound
