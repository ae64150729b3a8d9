-- The members that the classes of a world declare, and their flags (JVMS 4.1, 4.5, 4.6).
use Rattle.std.specs.Prelude.{◌≡◌, ℕ, ◌<◌, List, Some, codes, bit_and}
use Rattle.std.specs.List.{slice_get}
use Rattle.jv_types.specs.declared.access.Access.{Access}
use Rattle.jv_types.specs.declared.desc.Desc.{Desc}
use Rattle.jv_types.specs.declared.desc.MethodDesc.{MethodDesc}
use Rattle.jv_types.specs.declared.ids.FieldId.{FieldId}
use Rattle.jv_types.specs.declared.ids.MethodId.{MethodId}
use Rattle.jv_types.specs.declared.shapes.FieldShape.{FieldShape}
use Rattle.jv_types.specs.declared.shapes.MethodShape.{MethodShape}
use Rattle.jv_types.specs.declared.shapes.Shape.{Shape}
use Rattle.jv_world.specs.Worlds.{IsInterface}

-- ---- flags (JVMS tables 4.5-A and 4.6-A)

abbrev pub IsPublic : Access → Type 0
IsPublic access = bit_and access.0 1 ≡ 1

abbrev pub IsPrivate : Access → Type 0
IsPrivate access = bit_and access.0 2 ≡ 2

abbrev pub IsProtected : Access → Type 0
IsProtected access = bit_and access.0 4 ≡ 4

abbrev pub IsStatic : Access → Type 0
IsStatic access = bit_and access.0 8 ≡ 8

abbrev pub IsAbstract : Access → Type 0
IsAbstract access = bit_and access.0 1024 ≡ 1024

-- neither public, protected nor private
abbrev pub IsPackagePrivate : Access → Type 0
IsPackagePrivate access = ¬ IsPublic access × ¬ IsProtected access × ¬ IsPrivate access

-- the class of this number is an interface
abbrev pub IsInterfaceClass : List Shape → ℕ → Type 0
IsInterfaceClass w c = (s : Shape) × (slice_get w c ≡ Some s) × IsInterface s

-- ---- members by their places

-- the method has this shape
abbrev pub IsMethod : List Shape → MethodId → MethodShape → Type 0
IsMethod w m x = (s : Shape) × (slice_get w m.class.number ≡ Some s) × (slice_get s.methods m.index ≡ Some x)

-- the field has this shape
abbrev pub IsField : List Shape → FieldId → FieldShape → Type 0
IsField w f x = (s : Shape) × (slice_get w f.class.number ≡ Some s) × (slice_get s.fields f.index ≡ Some x)

-- the world has this method
abbrev pub HasMethod : List Shape → MethodId → Type 0
HasMethod w m = (x : MethodShape) × IsMethod w m x

-- the world has this field
abbrev pub HasField : List Shape → FieldId → Type 0
HasField w f = (x : FieldShape) × IsField w f x

-- an instance method that is not private
abbrev pub IsInheritable : List Shape → MethodId → Type 0
IsInheritable w m = (x : MethodShape) × IsMethod w m x × ¬ IsPrivate x.flags × ¬ IsStatic x.flags

-- not abstract
abbrev pub IsConcrete : List Shape → MethodId → Type 0
IsConcrete w m = (x : MethodShape) × IsMethod w m x × ¬ IsAbstract x.flags

-- ---- members by their names and descriptors

-- the name of instance initialization methods (JVMS 2.9)
abbrev pub init_name : List ℕ
init_name = codes "<init>"

abbrev pub IsMethodCalled : List ℕ → MethodDesc → MethodShape → Type 0
IsMethodCalled name desc x = (x.name ≡ name) × (x.desc ≡ desc)

abbrev pub IsFieldCalled : List ℕ → Desc → FieldShape → Type 0
IsFieldCalled name desc x = (x.name ≡ name) × (x.desc ≡ desc)

-- The method is the one that its class declares with this name and descriptor. A class has at most one (JVMS
-- 4.6); in a list with more it is the first.
pub record DeclaresMethod (w : List Shape) (name : List ℕ) (desc : MethodDesc) (m : MethodId) : Type 0 where
  pub class : Shape
  pub of_class : slice_get w m.class.number ≡ Some class
  pub shape : MethodShape
  pub at_place : slice_get class.methods m.index ≡ Some shape
  pub called : IsMethodCalled name desc shape
  pub first : (k : ℕ) (other : MethodShape) → k < m.index → slice_get class.methods k ≡ Some other → ¬ IsMethodCalled name desc other

-- the same of a field (JVMS 4.5)
pub record DeclaresField (w : List Shape) (name : List ℕ) (desc : Desc) (f : FieldId) : Type 0 where
  pub class : Shape
  pub of_class : slice_get w f.class.number ≡ Some class
  pub shape : FieldShape
  pub at_place : slice_get class.fields f.index ≡ Some shape
  pub called : IsFieldCalled name desc shape
  pub first : (k : ℕ) (other : FieldShape) → k < f.index → slice_get class.fields k ≡ Some other → ¬ IsFieldCalled name desc other
