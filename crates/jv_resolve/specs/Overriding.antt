-- Overriding (JVMS 5.4.5).
use Rattle.std.specs.Prelude.{◌≡◌, ℕ, ◌⊎◌, List}
use Rattle.jv_types.specs.declared.access.Access.{Access}
use Rattle.jv_types.specs.declared.ids.MethodId.{MethodId}
use Rattle.jv_types.specs.declared.shapes.MethodShape.{MethodShape}
use Rattle.jv_types.specs.declared.shapes.Shape.{Shape}
use Rattle.jv_world.specs.Worlds.{Sub}
use Rattle.jv_resolve.specs.Members.{IsPublic, IsPrivate, IsProtected, IsPackagePrivate, IsStatic, IsMethod, IsMethodCalled}
use Rattle.jv_resolve.specs.Packages.{AreInOnePackage}

-- a member of the class b with these flags is public, protected, or package-private in the package of the class a
abbrev pub IsOpenTo : List Shape → ℕ → ℕ → Access → Type 0
IsOpenTo w a b flags = IsPublic flags ⊎ IsProtected flags ⊎ (IsPackagePrivate flags × AreInOnePackage w a b)

-- a is declared in a subclass with the name and descriptor of b, neither is private or static, and b is public,
-- protected, or package-private in the package of a
pub record OverridesDirectly (w : List Shape) (a b : MethodId) : Type 0 where
  pub shape : MethodShape
  pub other : MethodShape
  pub place : IsMethod w a shape
  pub other_place : IsMethod w b other
  pub sub : Sub w a.class.number b.class.number
  pub called : IsMethodCalled other.name other.desc shape
  pub not_private : ¬ IsPrivate shape.flags
  pub not_static : ¬ IsStatic shape.flags
  pub other_not_private : ¬ IsPrivate other.flags
  pub other_not_static : ¬ IsStatic other.flags
  pub open_to : IsOpenTo w a.class.number b.class.number other.flags

-- a is b, or overrides it directly or through a third method
pub data Overrides (w : List Shape) : MethodId → MethodId → Type 0 where
  same : (a b : MethodId) → a ≡ b → Overrides w a b
  direct : (a b : MethodId) → OverridesDirectly w a b → Overrides w a b
  through : (a m b : MethodId) → Overrides w a m → Overrides w m b → Overrides w a b

-- a method of the class c stands between a and b
abbrev pub HasMiddle : List Shape → MethodId → MethodId → ℕ → Type 0
HasMiddle w a b c = (m : MethodId) × (m.class.number ≡ c) × OverridesDirectly w a m × OverridesDirectly w m b

-- a method of some class does
abbrev pub HasMiddleAbove : List Shape → MethodId → MethodId → Type 0
HasMiddleAbove w a b = (m : MethodId) × OverridesDirectly w a m × OverridesDirectly w m b
