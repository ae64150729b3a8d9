-- Resolution of fields, of methods of classes and of methods of interfaces (JVMS 5.4.3.2, 5.4.3.3, 5.4.3.4).
use Rattle.std.specs.Prelude.{◌≡◌, ℕ, ◌⊎◌, List, Some}
use Rattle.jv_types.specs.declared.desc.Desc.{Desc}
use Rattle.jv_types.specs.declared.desc.MethodDesc.{MethodDesc}
use Rattle.jv_types.specs.declared.ids.FieldId.{FieldId}
use Rattle.jv_types.specs.declared.ids.MethodId.{MethodId}
use Rattle.jv_types.specs.declared.references.FieldRef.{FieldRef}
use Rattle.jv_types.specs.declared.references.MethodRef.{MethodRef}
use Rattle.jv_types.specs.declared.shapes.MethodShape.{MethodShape}
use Rattle.jv_types.specs.declared.shapes.Shape.{Shape}
use Rattle.jv_world.specs.Worlds.{IsNamed, object_name}
use Rattle.jv_resolve.specs.Members.{IsPublic, IsStatic, IsInterfaceClass, IsMethod, init_name, DeclaresField, DeclaresMethod}
use Rattle.jv_resolve.specs.Inheriting.{IsSuperinterfaceMethod, IsNearest, HasNone, IsSingleDefault, HasNoSingleDefault}
use Rattle.jv_resolve.specs.DepthFirst.{IsFirst}
use Rattle.jv_resolve.specs.References.{named_class, BeginsAt, IsInterfaceType}

-- ---- fields

-- the class declares the field
abbrev pub DeclaresFieldIn : List Shape → List ℕ → Desc → ℕ → Type 0
DeclaresFieldIn w name desc c = (f : FieldId) × DeclaresField w name desc f × (f.class.number ≡ c)

-- A field is looked for in the class that the reference names, then in its superinterfaces recursively, then in
-- its superclass recursively.
pub record ResolvesField (w : List Shape) (r : FieldRef) (f : FieldId) : Type 0 where
  pub named : ℕ
  pub name : IsNamed w named r.class
  pub declared : DeclaresField w r.name r.desc f
  pub first : IsFirst w (DeclaresFieldIn w r.name r.desc) named f.class.number

-- ---- methods

-- the class d is a superinterface of the class c that declares such a method, neither private nor static
abbrev pub DeclaresFor : List Shape → ℕ → List ℕ → MethodDesc → ℕ → Type 0
DeclaresFor w c name desc d = (m : MethodId) × IsSuperinterfaceMethod w c name desc m × (m.class.number ≡ d)

-- Above the class c: the single non-abstract one among the maximally specific superinterface methods; otherwise
-- the first superinterface method, depth first, that is neither private nor static.
pub record ResolvesAbove (w : List Shape) (c : ℕ) (name : List ℕ) (desc : MethodDesc) (m : MethodId) : Type 0 where
  pub declared : DeclaresMethod w name desc m
  pub found : IsSingleDefault w c name desc m
      ⊎ (HasNoSingleDefault w c name desc × IsFirst w (DeclaresFor w c name desc) c m.class.number)

-- In the class c and its superclasses; otherwise among the superinterfaces.
abbrev pub ResolvesInClass : List Shape → ℕ → List ℕ → MethodDesc → MethodId → Type 0
ResolvesInClass w c name desc m =
    IsNearest w (DeclaresMethod w name desc) c m
    ⊎ (HasNone w (DeclaresMethod w name desc) c × ResolvesAbove w c name desc m)

-- a public instance method
abbrev pub IsPublicInstance : List Shape → MethodId → Type 0
IsPublicInstance w m = (x : MethodShape) × IsMethod w m x × IsPublic x.flags × ¬ IsStatic x.flags

-- such a one that Object declares
abbrev pub IsObjectMethod : List Shape → List ℕ → MethodDesc → MethodId → Type 0
IsObjectMethod w name desc m =
    DeclaresMethod w name desc m × IsNamed w m.class.number object_name × IsPublicInstance w m

-- the class c declares the method
abbrev pub DeclaresIn : List Shape → ℕ → List ℕ → MethodDesc → MethodId → Type 0
DeclaresIn w c name desc m = DeclaresMethod w name desc m × (m.class.number ≡ c)

-- In the interface c; otherwise among Object's public instance methods; otherwise among the superinterfaces.
abbrev pub ResolvesInInterface : List Shape → ℕ → List ℕ → MethodDesc → MethodId → Type 0
ResolvesInInterface w c name desc m =
    DeclaresIn w c name desc m
    ⊎ (((other : MethodId) → ¬ DeclaresIn w c name desc other)
    × (IsObjectMethod w name desc m
    ⊎ (((other : MethodId) → ¬ IsObjectMethod w name desc other) × ResolvesAbove w c name desc m)))

-- An instance initialization method is found only where the class that the reference names declares it itself.
abbrev pub IsInitKept : List Shape → MethodRef → MethodId → Type 0
IsInitKept w r m = r.name ≡ init_name → (name : List ℕ) × (named_class r.class ≡ Some name) × IsNamed w m.class.number name

-- the method of a class, or of an array
pub record ResolvesMethod (w : List Shape) (r : MethodRef) (m : MethodId) : Type 0 where
  pub start : ℕ
  pub begins : BeginsAt w r.class start
  pub no_interface : ¬ IsInterfaceType w r.class
  pub found : ResolvesInClass w start r.name r.desc m
  pub init : IsInitKept w r m

-- the method of an interface
pub record ResolvesInterfaceMethod (w : List Shape) (r : MethodRef) (m : MethodId) : Type 0 where
  pub start : ℕ
  pub name : List ℕ
  pub names : named_class r.class ≡ Some name
  pub begins : IsNamed w start name
  pub interface : IsInterfaceClass w start
  pub found : ResolvesInInterface w start r.name r.desc m
  pub init : IsInitKept w r m
