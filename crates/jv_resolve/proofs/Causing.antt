-- What keeps a reference from being resolved keeps it from being resolved with access.
use Rattle.std.proofs.Common.{ℕ, List}
use Rattle.jv_types.specs.declared.references.FieldRef.{FieldRef}
use Rattle.jv_types.specs.declared.references.MethodRef.{MethodRef}
use Rattle.jv_types.specs.declared.shapes.Shape.{Shape}
use Rattle.jv_resolve.specs.declared.refusal.ResolveRefusal.{ResolveRefusal}
use Rattle.jv_resolve.specs.declared.refusal.ResolveRefusal.TheVariants.{WrongKind, NotFound, NoAccess, Memory}
use Rattle.jv_resolve.specs.Refusals.{IsFieldUnresolved, IsMethodUnresolved, IsInterfaceMethodUnresolved, HasFieldCause, HasMethodCause, HasInterfaceMethodCause}

pub field_cause : (w : List Shape) (from : ℕ) (r : FieldRef) (e : ResolveRefusal) → IsFieldUnresolved w r e → HasFieldCause w from r e
field_cause w from r WrongKind p = p
field_cause w from r NotFound p = p
field_cause w from r NoAccess p = absurd p
field_cause w from r Memory p = p

pub method_cause : (w : List Shape) (from : ℕ) (r : MethodRef) (e : ResolveRefusal) → IsMethodUnresolved w r e → HasMethodCause w from r e
method_cause w from r WrongKind p = p
method_cause w from r NotFound p = p
method_cause w from r NoAccess p = absurd p
method_cause w from r Memory p = p

pub interface_method_cause : (w : List Shape) (from : ℕ) (r : MethodRef) (e : ResolveRefusal) → IsInterfaceMethodUnresolved w r e → HasInterfaceMethodCause w from r e
interface_method_cause w from r WrongKind p = p
interface_method_cause w from r NotFound p = p
interface_method_cause w from r NoAccess p = absurd p
interface_method_cause w from r Memory p = p
