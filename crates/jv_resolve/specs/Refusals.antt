-- Why a reference is not resolved: by the world and the reference alone, and then for want of access.
use Rattle.std.specs.Prelude.{ℕ, List}
use Rattle.jv_types.specs.declared.ids.FieldId.{FieldId}
use Rattle.jv_types.specs.declared.ids.MethodId.{MethodId}
use Rattle.jv_types.specs.declared.references.FieldRef.{FieldRef}
use Rattle.jv_types.specs.declared.references.MethodRef.{MethodRef}
use Rattle.jv_types.specs.declared.shapes.Shape.{Shape}
use Rattle.jv_resolve.specs.declared.refusal.ResolveRefusal.{ResolveRefusal}
use Rattle.jv_resolve.specs.declared.refusal.ResolveRefusal.TheVariants.{WrongKind, NotFound, NoAccess, Memory}
use Rattle.jv_resolve.specs.References.{IsInterfaceType}
use Rattle.jv_resolve.specs.Resolving.{ResolvesField, ResolvesMethod, ResolvesInterfaceMethod}
use Rattle.jv_resolve.specs.Access.{IsFieldAccessible, IsMethodAccessible}

-- ---- by the world and the reference alone

-- a reference to a field is never of the wrong kind
abbrev pub IsFieldUnresolved : List Shape → FieldRef → ResolveRefusal → Type 0
IsFieldUnresolved w r WrongKind = ⊥
IsFieldUnresolved w r NotFound = (f : FieldId) → ¬ ResolvesField w r f
IsFieldUnresolved w r NoAccess = ⊥
IsFieldUnresolved w r Memory = Unit {0}

-- a method of a class: first the kind, then what is found
abbrev pub IsMethodUnresolved : List Shape → MethodRef → ResolveRefusal → Type 0
IsMethodUnresolved w r WrongKind = IsInterfaceType w r.class
IsMethodUnresolved w r NotFound = ¬ IsInterfaceType w r.class × ((m : MethodId) → ¬ ResolvesMethod w r m)
IsMethodUnresolved w r NoAccess = ⊥
IsMethodUnresolved w r Memory = Unit {0}

-- a method of an interface
abbrev pub IsInterfaceMethodUnresolved : List Shape → MethodRef → ResolveRefusal → Type 0
IsInterfaceMethodUnresolved w r WrongKind = ¬ IsInterfaceType w r.class
IsInterfaceMethodUnresolved w r NotFound = IsInterfaceType w r.class × ((m : MethodId) → ¬ ResolvesInterfaceMethod w r m)
IsInterfaceMethodUnresolved w r NoAccess = ⊥
IsInterfaceMethodUnresolved w r Memory = Unit {0}

-- ---- or else for want of access from the class `from`

abbrev pub HasFieldCause : List Shape → ℕ → FieldRef → ResolveRefusal → Type 0
HasFieldCause w from r WrongKind = IsFieldUnresolved w r WrongKind
HasFieldCause w from r NotFound = IsFieldUnresolved w r NotFound
HasFieldCause w from r NoAccess = (f : FieldId) × ResolvesField w r f × ¬ IsFieldAccessible w from r f
HasFieldCause w from r Memory = Unit {0}

abbrev pub HasMethodCause : List Shape → ℕ → MethodRef → ResolveRefusal → Type 0
HasMethodCause w from r WrongKind = IsMethodUnresolved w r WrongKind
HasMethodCause w from r NotFound = IsMethodUnresolved w r NotFound
HasMethodCause w from r NoAccess = (m : MethodId) × ResolvesMethod w r m × ¬ IsMethodAccessible w from r m
HasMethodCause w from r Memory = Unit {0}

abbrev pub HasInterfaceMethodCause : List Shape → ℕ → MethodRef → ResolveRefusal → Type 0
HasInterfaceMethodCause w from r WrongKind = IsInterfaceMethodUnresolved w r WrongKind
HasInterfaceMethodCause w from r NotFound = IsInterfaceMethodUnresolved w r NotFound
HasInterfaceMethodCause w from r NoAccess = (m : MethodId) × ResolvesInterfaceMethod w r m × ¬ IsMethodAccessible w from r m
HasInterfaceMethodCause w from r Memory = Unit {0}
