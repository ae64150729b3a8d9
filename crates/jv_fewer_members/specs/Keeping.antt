-- Which members of a world have to be kept, so that references and calls find in the part what they find in the
-- whole. An application meets the other members of its library through no reference and no call.
use Rattle.std.specs.Prelude.{◌≡◌, ◌≢◌, ℕ, IsTrue, List, Some, slice_get, codes}
use Rattle.jv_types.specs.declared.desc.MethodDesc.{MethodDesc}
use Rattle.jv_types.specs.declared.ids.FieldId.{FieldId}
use Rattle.jv_types.specs.declared.ids.MethodId.{MethodId}
use Rattle.jv_types.specs.declared.references.FieldRef.{FieldRef}
use Rattle.jv_types.specs.declared.references.MethodRef.{MethodRef}
use Rattle.jv_types.specs.declared.shapes.FieldShape.{FieldShape}
use Rattle.jv_types.specs.declared.shapes.MethodShape.{MethodShape}
use Rattle.jv_types.specs.declared.shapes.Shape.{Shape}
use Rattle.jv_world.specs.Worlds.{HasSuper, Sub}
use Rattle.jv_resolve.specs.Members.{init_name, HasField, HasMethod, IsField, IsFieldCalled, IsInheritable, IsMethod, IsMethodCalled, IsStatic}
use Rattle.jv_resolve.specs.Resolving.{ResolvesField, ResolvesInterfaceMethod, ResolvesMethod}
use Rattle.jv_fewer_members.specs.Parts.{Places, IsFieldKept, IsMethodKept}

-- ---- the application and its library

-- the class of this number belongs to the application
abbrev pub IsApplication : List Shape → ℕ → Type 0
IsApplication w c = (s : Shape) × (slice_get w c ≡ Some s) × IsTrue s.application

-- the class of this number belongs to the library
abbrev pub IsLibrary : List Shape → ℕ → Type 0
IsLibrary w c = (s : Shape) × (slice_get w c ≡ Some s) × ¬ IsTrue s.application

-- a library class has no supertype in the application
abbrev pub IsApart : List Shape → Type 0
IsApart w = (c d : ℕ) → IsLibrary w c → HasSuper w c d → IsLibrary w d

-- ---- methods by names

-- the name of class and interface initialization methods (JVMS 2.9)
abbrev pub class_init_name : List ℕ
class_init_name = codes "<clinit>"

-- the method has this name and descriptor
abbrev pub IsCalled : List Shape → MethodId → List ℕ → MethodDesc → Type 0
IsCalled w m name desc = (x : MethodShape) × IsMethod w m x × IsMethodCalled name desc x

-- an instance method of this name and descriptor
abbrev pub IsInstanceMethod : List Shape → MethodId → List ℕ → MethodDesc → Type 0
IsInstanceMethod w m name desc = (x : MethodShape) × IsMethod w m x × IsMethodCalled name desc x × ¬ IsStatic x.flags

-- an instance method that calls select by: no initialization method of an instance, a class or an interface
abbrev pub IsSelectable : List Shape → MethodId → Type 0
IsSelectable w m = (name : List ℕ) × (desc : MethodDesc) × IsInstanceMethod w m name desc × (name ≢ init_name) × (name ≢ class_init_name)

-- ---- what has to be kept

-- an application class keeps all its members
pub record KeepsApplication (w v : List Shape) (at : Places) : Type 0 where
  pub fields : (f : FieldId) → IsApplication w f.class.number → HasField w f → IsFieldKept v at f
  pub methods : (m : MethodId) → IsApplication w m.class.number → HasMethod w m → IsMethodKept v at m

-- Of the members of a class with one name and descriptor all are kept, or none. The file of a class has at most one such (JVMS 4.5, 4.6).
pub record KeepsAlike (w v : List Shape) (at : Places) : Type 0 where
  pub fields : (f g : FieldId) (x y : FieldShape) → f.class ≡ g.class → IsField w f x → IsField w g y → IsFieldCalled x.name x.desc y → IsFieldKept v at f → IsFieldKept v at g
  pub methods : (m n : MethodId) (x y : MethodShape) → m.class ≡ n.class → IsMethod w m x → IsMethod w n y → IsMethodCalled x.name x.desc y → IsMethodKept v at m → IsMethodKept v at n

-- what an application class may inherit: each instance method of a library supertype that is neither private nor an initialization method
abbrev pub KeepsInherited : List Shape → List Shape → Places → Type 0
KeepsInherited w v at = (c : ℕ) (m : MethodId) (name : List ℕ) (desc : MethodDesc) → IsApplication w c → Sub w c m.class.number → IsLibrary w m.class.number → IsInheritable w m
    → IsCalled w m name desc → name ≢ init_name → name ≢ class_init_name → IsMethodKept v at m

-- what may override a kept one, or be overridden by it: each instance method of a library class that isn't private and has the name and descriptor of a kept instance method of a library class, other than `<init>`
abbrev pub KeepsSameSignature : List Shape → List Shape → Places → Type 0
KeepsSameSignature w v at = (m other : MethodId) (name : List ℕ) (desc : MethodDesc) → IsLibrary w m.class.number → IsMethodKept v at m → IsInstanceMethod w m name desc → name ≢ init_name
    → IsLibrary w other.class.number → IsInheritable w other → IsCalled w other name desc → IsMethodKept v at other

-- all of these together
pub record KeepsMembers (w v : List Shape) (at : Places) : Type 0 where
  pub apart : IsApart w
  pub application : KeepsApplication w v at
  pub alike : KeepsAlike w v at
  pub inherited : KeepsInherited w v at
  pub same_signature : KeepsSameSignature w v at

-- ---- and what references resolve to (JVMS 5.4.3)

abbrev pub KeepsField : List Shape → List Shape → Places → FieldRef → Type 0
KeepsField w v at r = (f : FieldId) → ResolvesField w r f → IsFieldKept v at f

abbrev pub KeepsMethod : List Shape → List Shape → Places → MethodRef → Type 0
KeepsMethod w v at r = (m : MethodId) → ResolvesMethod w r m → IsMethodKept v at m

abbrev pub KeepsInterfaceMethod : List Shape → List Shape → Places → MethodRef → Type 0
KeepsInterfaceMethod w v at r = (m : MethodId) → ResolvesInterfaceMethod w r m → IsMethodKept v at m
