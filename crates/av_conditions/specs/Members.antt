-- To which member the reference of an instruction resolves (JVMS 5.4.3, 6.5). Access is not asked here.
use Rattle.std.specs.Prelude.{◌≡◌, Bool, true, false, List}
use Rattle.jv_types.specs.declared.ids.FieldId.{FieldId}
use Rattle.jv_types.specs.declared.ids.MethodId.{MethodId}
use Rattle.jv_types.specs.declared.instruction.Arg.TheVariants.{Field, Method}
use Rattle.jv_types.specs.declared.instruction.Insn.{Insn}
use Rattle.jv_types.specs.declared.references.FieldRef.{FieldRef}
use Rattle.jv_types.specs.declared.references.MethodRef.{MethodRef}
use Rattle.jv_types.specs.declared.shapes.Shape.{Shape}
use Rattle.jv_resolve.specs.Resolving.{ResolvesField, ResolvesMethod, ResolvesInterfaceMethod}

-- a reference to a method resolves as one of a class or array, or as one of an interface
abbrev pub ResolvesBy : Bool → List Shape → MethodRef → MethodId → Type 0
ResolvesBy false w r m = ResolvesMethod w r m
ResolvesBy true w r m = ResolvesInterfaceMethod w r m

-- the method to which a reference resolves, by what the reference says that it names
abbrev pub ResolvesCall : List Shape → MethodRef → MethodId → Type 0
ResolvesCall w r m = ResolvesBy r.interface w r m

-- the field to which the reference of an instruction resolves
abbrev pub RefersToField : List Shape → Insn → FieldId → Type 0
RefersToField w insn f = (r : FieldRef) × (insn.arg ≡ Field r) × ResolvesField w r f

-- the method to which the reference of an instruction resolves
abbrev pub RefersToMethod : List Shape → Insn → MethodId → Type 0
RefersToMethod w insn m = (r : MethodRef) × (insn.arg ≡ Method r) × ResolvesCall w r m
