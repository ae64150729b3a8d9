-- Which method a call runs on an object of the library (JVMS 6.5, invokevirtual and invokeinterface). Its class may be
-- one that nobody sees, which declares methods that nobody sees.
use Rattle.std.specs.Prelude.{◌≡◌, ℕ, ◌⊎◌, List, bit_and}
use Rattle.jv_types.specs.declared.access.Access.{Access}
use Rattle.jv_types.specs.declared.ids.ClassId.{ClassId}
use Rattle.jv_types.specs.declared.ids.MethodId.{MethodId}
use Rattle.jv_types.specs.declared.shapes.MethodShape.{MethodShape}
use Rattle.jv_types.specs.declared.shapes.Shape.{Shape}
use Rattle.jv_resolve.specs.Members.{IsMethod, IsMethodCalled, IsPrivate, IsStatic}
use Rattle.jv_resolve.specs.Overriding.{IsOpenTo, Overrides}
use Rattle.jv_resolve.specs.Selecting.{SelectsInterface, SelectsVirtual}
use Rattle.av_states.specs.declared.run_type.RunType.{Lib}
use Rattle.av_model.specs.LibraryTypes.{IsFinalClass}
use Rattle.av_model.specs.RunTypes.{IsOfClass}

-- how a call looks for the method that it runs: invokevirtual by overriding, invokeinterface by name and descriptor
pub data Search : Type 0 where
  ByOverriding : Search
  ByName : Search

-- on an object of the class c, a call of the resolved method runs m
abbrev pub Selects : Search → List Shape → ℕ → MethodId → MethodId → Type 0
Selects ByOverriding w c resolved m = SelectsVirtual w c resolved m
Selects ByName w c resolved m = SelectsInterface w c resolved m

abbrev pub IsFinalMethod : Access → Type 0
IsFinalMethod access = bit_and access.0 16 ≡ 16

-- ---- a method that nobody sees

-- DeclaredAsStated: a public method with the name and descriptor of m, in a class that nobody sees, overrides m
-- directly (JVMS 5.4.5). That class is in the package of low, so it overrides no package-private method of another.
pub record UnseenOverridesDirectly (w : List Shape) (low : ClassId) (ifs : List ClassId) (m : MethodId) : Type 0 where
  pub shape : MethodShape
  pub place : IsMethod w m shape
  pub above : IsOfClass w (Lib low ifs) m.class
  pub not_private : IsPrivate shape.flags → ⊥
  pub not_static : IsStatic shape.flags → ⊥
  pub open_to : IsOpenTo w low.number m.class.number shape.flags

-- so it does, or through a method of the world
abbrev pub UnseenOverrides : List Shape → ClassId → List ClassId → MethodId → Type 0
UnseenOverrides w low ifs m = (middle : MethodId) × UnseenOverridesDirectly w low ifs middle × Overrides w middle m

-- no method with the name and descriptor of this one that it would override is final
abbrev pub OverridesNoFinal : List Shape → ClassId → List ClassId → MethodShape → Type 0
OverridesNoFinal w low ifs shape =
    (m : MethodId) (other : MethodShape) → IsMethod w m other → IsMethodCalled shape.name shape.desc other → UnseenOverrides w low ifs m
    → IsFinalMethod other.flags → ⊥

-- it is what a call of the resolved method runs on an object of its class
abbrev pub UnseenIsSelected : Search → List Shape → ClassId → List ClassId → MethodId → Type 0
UnseenIsSelected ByOverriding w low ifs resolved = UnseenOverrides w low ifs resolved
UnseenIsSelected ByName w low ifs resolved = Unit {0}

-- there may be such a method in a class below low
pub record MayDeclare (search : Search) (w : List Shape) (low : ClassId) (ifs : List ClassId) (resolved : MethodId) : Type 0 where
  pub open_class : IsFinalClass w low → ⊥
  pub shape : MethodShape
  pub place : IsMethod w resolved shape
  pub overrides_no_final : OverridesNoFinal w low ifs shape
  pub selected : UnseenIsSelected search w low ifs resolved

-- ---- calls

-- A call of the resolved method on an object of a class that nobody sees runs a method: one of low or above it, or one
-- that nobody sees.
abbrev pub CanSelect : Search → List Shape → ClassId → List ClassId → MethodId → Type 0
CanSelect search w low ifs resolved =
    ((m : MethodId) × Selects search w low.number resolved m) ⊎ MayDeclare search w low ifs resolved
