-- Which method a call runs on an object of a class (JVMS 6.5, invokevirtual, invokeinterface and invokespecial).
-- Private and static methods are passed over, and an abstract one is no answer.
use Rattle.std.specs.Prelude.{◌≡◌, ℕ, suc, ◌⊎◌, List, Some}
use Rattle.jv_types.specs.declared.desc.MethodDesc.{MethodDesc}
use Rattle.jv_types.specs.declared.ids.MethodId.{MethodId}
use Rattle.jv_types.specs.declared.references.MethodRef.{MethodRef}
use Rattle.jv_types.specs.declared.shapes.MethodShape.{MethodShape}
use Rattle.jv_types.specs.declared.shapes.Shape.{Shape}
use Rattle.jv_world.specs.Worlds.{Climbs, IsNamed, HasSuperclass}
use Rattle.jv_resolve.specs.Members.{IsPrivate, IsStatic, IsInterfaceClass, IsInheritable, IsConcrete, IsMethod, init_name, DeclaresMethod}
use Rattle.jv_resolve.specs.Inheriting.{IsNearest, HasNone, IsSingleDefault}
use Rattle.jv_resolve.specs.Overriding.{Overrides}
use Rattle.jv_resolve.specs.References.{named_class, BeginsAt}
use Rattle.jv_resolve.specs.Resolving.{IsObjectMethod}

-- declared with this name and descriptor, and neither private nor static
abbrev pub IsCandidate : List Shape → List ℕ → MethodDesc → MethodId → Type 0
IsCandidate w name desc m = DeclaresMethod w name desc m × IsInheritable w m

-- such a one that overrides the resolved method
abbrev pub IsOverrider : List Shape → MethodId → List ℕ → MethodDesc → MethodId → Type 0
IsOverrider w resolved name desc m = DeclaresMethod w name desc m × IsInheritable w m × Overrides w m resolved

-- The nearest one of which P holds, from the class c up its superclasses; where there is none the single
-- non-abstract maximally specific superinterface method.
abbrev pub SelectsBy : List Shape → (MethodId → Type 0) → ℕ → List ℕ → MethodDesc → MethodId → Type 0
SelectsBy w P c name desc m =
    (IsNearest w P c m ⊎ (HasNone w P c × IsSingleDefault w c name desc m)) × IsConcrete w m

-- invokevirtual of the resolved method on an object of the class c runs m
pub record SelectsVirtual (w : List Shape) (c : ℕ) (resolved m : MethodId) : Type 0 where
  pub shape : MethodShape
  pub place : IsMethod w resolved shape
  pub selects : SelectsBy w (IsOverrider w resolved shape.name shape.desc) c shape.name shape.desc m

-- invokeinterface of the resolved method on an object of the class c runs m: by name and descriptor
pub record SelectsInterface (w : List Shape) (c : ℕ) (resolved m : MethodId) : Type 0 where
  pub shape : MethodShape
  pub place : IsMethod w resolved shape
  pub selects : SelectsBy w (IsCandidate w shape.name shape.desc) c shape.name shape.desc m

-- ---- invokespecial

-- d is a superclass of c
abbrev pub IsSuperclass : List Shape → ℕ → ℕ → Type 0
IsSuperclass w c d = (more : ℕ) × Climbs w (suc more) c d

-- the reference names a superclass of the class `from`, and the method is no instance initialization method
abbrev pub IsSuperCall : List Shape → ℕ → MethodRef → List ℕ → Type 0
IsSuperCall w from r name =
    ¬ (name ≡ init_name)
    × (class_name : List ℕ) × (class : ℕ) × (named_class r.class ≡ Some class_name) × IsNamed w class class_name × IsSuperclass w from class

-- the search starts at the direct superclass of `from` where that is so, and otherwise at the type that the
-- reference names, which is Object for an array
abbrev pub SpecialStart : List Shape → ℕ → MethodRef → List ℕ → ℕ → Type 0
SpecialStart w from r name start =
    (IsSuperCall w from r name × HasSuperclass w from start) ⊎ (¬ IsSuperCall w from r name × BeginsAt w r.class start)

-- not static, and not private unless it is the resolved method itself
abbrev pub IsSpecial : List Shape → MethodId → MethodId → Type 0
IsSpecial w resolved m = (x : MethodShape) × IsMethod w m x × ¬ IsStatic x.flags × (¬ IsPrivate x.flags ⊎ (m ≡ resolved))

-- such a one with this name and descriptor
abbrev pub IsSpecialCandidate : List Shape → MethodId → List ℕ → MethodDesc → MethodId → Type 0
IsSpecialCandidate w resolved name desc m = DeclaresMethod w name desc m × IsSpecial w resolved m

-- In an interface: its own one; otherwise a public instance method of Object; otherwise the single non-abstract
-- maximally specific superinterface method.
abbrev pub FindsInInterface : List Shape → MethodId → List ℕ → MethodDesc → ℕ → MethodId → Type 0
FindsInInterface w resolved name desc start m =
    (IsSpecialCandidate w resolved name desc m × (m.class.number ≡ start))
    ⊎ (((other : MethodId) → other.class.number ≡ start → ¬ IsSpecialCandidate w resolved name desc other)
    × (IsObjectMethod w name desc m
    ⊎ (((other : MethodId) → ¬ IsObjectMethod w name desc other) × IsSingleDefault w start name desc m)))

abbrev pub SelectsInInterface : List Shape → MethodId → List ℕ → MethodDesc → ℕ → MethodId → Type 0
SelectsInInterface w resolved name desc start m = FindsInInterface w resolved name desc start m × IsConcrete w m

-- from the class or interface at which the search starts
abbrev pub SelectsFrom : List Shape → MethodId → List ℕ → MethodDesc → ℕ → MethodId → Type 0
SelectsFrom w resolved name desc start m =
    (¬ IsInterfaceClass w start × SelectsBy w (IsSpecialCandidate w resolved name desc) start name desc m)
    ⊎ (IsInterfaceClass w start × SelectsInInterface w resolved name desc start m)

-- invokespecial of the resolved method in the class `from`, by the reference, runs m
pub record SelectsSpecial (w : List Shape) (from : ℕ) (r : MethodRef) (resolved m : MethodId) : Type 0 where
  pub shape : MethodShape
  pub place : IsMethod w resolved shape
  pub start : ℕ
  pub starts : SpecialStart w from r shape.name start
  pub selects : SelectsFrom w resolved shape.name shape.desc start m
