-- Where methods are looked for above a class: along its superclasses, and among its superinterfaces.
use Rattle.std.specs.Prelude.{◌≡◌, ℕ, ◌<◌, List}
use Rattle.jv_types.specs.declared.desc.MethodDesc.{MethodDesc}
use Rattle.jv_types.specs.declared.ids.MethodId.{MethodId}
use Rattle.jv_types.specs.declared.shapes.Shape.{Shape}
use Rattle.jv_world.specs.Worlds.{Climbs, ProperSub}
use Rattle.jv_resolve.specs.Members.{IsInterfaceClass, IsInheritable, IsConcrete, DeclaresMethod}

-- ---- along the superclasses

-- The method is such a one as P says, and no fewer superclass links lead from the class c to another class that
-- has such a one.
pub record IsNearest (w : List Shape) (P : MethodId → Type 0) (c : ℕ) (m : MethodId) : Type 0 where
  pub links : ℕ
  pub leads : Climbs w links c m.class.number
  pub meets : P m
  pub nearest : (n : ℕ) (other : MethodId) → n < links → Climbs w n c other.class.number → ¬ P other

-- neither the class c nor a superclass of it has such a one
abbrev pub HasNone : List Shape → (MethodId → Type 0) → ℕ → Type 0
HasNone w P c = (n : ℕ) (m : MethodId) → Climbs w n c m.class.number → ¬ P m

-- ---- among the superinterfaces (JVMS 5.4.3.3)

-- a method of this name and descriptor of an interface that is neither private nor static
abbrev pub IsInterfaceMethod : List Shape → List ℕ → MethodDesc → MethodId → Type 0
IsInterfaceMethod w name desc m = DeclaresMethod w name desc m × IsInheritable w m × IsInterfaceClass w m.class.number

-- such a one of a superinterface of the class c
abbrev pub IsSuperinterfaceMethod : List Shape → ℕ → List ℕ → MethodDesc → MethodId → Type 0
IsSuperinterfaceMethod w c name desc m = ProperSub w c m.class.number × IsInterfaceMethod w name desc m

-- no proper subinterface among the superinterfaces has such a one
pub record IsMaximallySpecific (w : List Shape) (c : ℕ) (name : List ℕ) (desc : MethodDesc) (m : MethodId) : Type 0 where
  pub method : IsSuperinterfaceMethod w c name desc m
  pub none_below : (other : MethodId) → IsSuperinterfaceMethod w c name desc other → ¬ ProperSub w other.class.number m.class.number

-- the one maximally specific superinterface method that is not abstract
pub record IsSingleDefault (w : List Shape) (c : ℕ) (name : List ℕ) (desc : MethodDesc) (m : MethodId) : Type 0 where
  pub specific : IsMaximallySpecific w c name desc m
  pub concrete : IsConcrete w m
  pub only : (other : MethodId) → IsMaximallySpecific w c name desc other → IsConcrete w other → other ≡ m

-- there is no such one: there is none, or there is more than one
abbrev pub HasNoSingleDefault : List Shape → ℕ → List ℕ → MethodDesc → Type 0
HasNoSingleDefault w c name desc = (m : MethodId) → ¬ IsSingleDefault w c name desc m
