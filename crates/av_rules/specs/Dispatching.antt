-- Which methods a call runs on the objects of a label (JVMS 6.5, invokevirtual, invokeinterface, invokespecial).
use Rattle.std.specs.Prelude.{◌≡◌, ◌<◌, ℕ, Bool, true, false, List}
use Rattle.jv_table.specs.declared.ops.TheConstants.{INVOKEVIRTUAL, INVOKESPECIAL, INVOKEINTERFACE}
use Rattle.jv_types.specs.declared.ids.ClassId.{ClassId}
use Rattle.jv_types.specs.declared.ids.MethodId.{MethodId}
use Rattle.jv_types.specs.declared.instruction.Arg.TheVariants.{Method}
use Rattle.jv_types.specs.declared.label.Label.{Label}
use Rattle.jv_types.specs.declared.label.Label.TheVariants.{Lib}
use Rattle.jv_types.specs.declared.label.LibBase.TheVariants as bases
use Rattle.jv_types.specs.declared.references.MethodRef.{MethodRef}
use Rattle.jv_types.specs.declared.shapes.MethodShape.{MethodShape}
use Rattle.jv_types.specs.declared.shapes.Shape.{Shape}
use Rattle.jv_world.specs.Worlds.{object_name, IsNamed}
use Rattle.jv_resolve.specs.Members.{IsMethod}
use Rattle.jv_resolve.specs.Selecting.{SelectsVirtual, SelectsInterface, SelectsSpecial}
use Rattle.av_conditions.specs.Members.{RefersToMethod, ResolvesCall}
use Rattle.av_rules.specs.declared.flat_type.FlatType.{FlatType}
use Rattle.av_rules.specs.Labels.{IsTypeOf, Passes}
use Rattle.av_rules.specs.Program.{Program, Point, method_of}
use Rattle.av_rules.specs.StandInClasses.{IsAnyClassOf}

-- a call of the resolved method, by invokeinterface or by invokevirtual, runs m on an object of the class c
abbrev pub SelectsOn : List Shape → Bool → ℕ → MethodId → MethodId → Type 0
SelectsOn w true c resolved m = SelectsInterface w c resolved m
SelectsOn w false c resolved m = SelectsVirtual w c resolved m

-- it runs nothing there
abbrev pub SelectsNone : List Shape → Bool → ℕ → MethodId → Type 0
SelectsNone w interface c resolved = (m : MethodId) → ¬ SelectsOn w interface c resolved m

-- A label selects a method: what is selected for the class of its type, and for an array for Object. Where nothing
-- is selected for the class of any object of a class, it is what is selected for that class itself. A label
-- without a type selects nothing.
pub data LabelSelects (p : Program) (interface : Bool) (label : Label) (resolved m : MethodId) : Type 0 where
  on_class : (c : ClassId) → IsTypeOf p label (record { base = bases.Class c; dims = 0 }) → SelectsOn p.world interface c.number resolved m
      → LabelSelects p interface label resolved m
  on_array : (type : FlatType) (object : ℕ) → IsTypeOf p label type → 0 < type.dims → IsNamed p.world object object_name
      → SelectsOn p.world interface object resolved m → LabelSelects p interface label resolved m
  instead : (c : ClassId) (any : ℕ) → label ≡ Lib (bases.Class c) 0 → IsAnyClassOf p.world c.number any → SelectsNone p.world interface any resolved
      → SelectsOn p.world interface c.number resolved m → LabelSelects p interface label resolved m

-- An instruction runs the method on the objects of a label: invokevirtual, invokeinterface where the label passes
-- the interface that the reference names, and invokespecial whatever the label is.
pub data Runs (p : Program) (at : Point) (label : Label) (t : MethodId) : Type 0 where
  by_virtual : (resolved : MethodId) → at.insn.op ≡ INVOKEVIRTUAL → RefersToMethod p.world at.insn resolved
      → LabelSelects p false label resolved t → Runs p at label t
  by_interface : (r : MethodRef) (resolved : MethodId) → at.insn.op ≡ INVOKEINTERFACE → at.insn.arg ≡ Method r → ResolvesCall p.world r resolved
      → Passes p label r.class → LabelSelects p true label resolved t → Runs p at label t
  by_special : (r : MethodRef) (resolved : MethodId) → at.insn.op ≡ INVOKESPECIAL → at.insn.arg ≡ Method r → ResolvesCall p.world r resolved
      → SelectsSpecial p.world (method_of at).class.number r resolved t → Runs p at label t

-- the two methods have one name and one descriptor
abbrev pub AreAlike : List Shape → MethodId → MethodId → Type 0
AreAlike w a b = (x : MethodShape) × (y : MethodShape) × IsMethod w a x × IsMethod w b y × (x.name ≡ y.name) × (x.desc ≡ y.desc)

-- the instruction is a call whose resolved method has the name and the descriptor of t
abbrev pub CallsAlike : Program → Point → MethodId → Type 0
CallsAlike p at t = (resolved : MethodId) × RefersToMethod p.world at.insn resolved × AreAlike p.world resolved t
