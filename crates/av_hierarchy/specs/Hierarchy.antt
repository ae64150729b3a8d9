-- What the classes of an application and of what it can meet of a library are refused for by their supertypes (rules
-- 8 to 10), each at the least class name. The classes are whole: of the library too with all their members.
use Rattle.std.specs.Prelude.{◌≡◌, ℕ, List, bit_and}
use Rattle.jv_types.specs.declared.ids.MethodId.{MethodId}
use Rattle.jv_types.specs.declared.rule.Rule.{Rule}
use Rattle.jv_types.specs.declared.rule.Rule.TheVariants as rules
use Rattle.jv_types.specs.declared.shapes.MethodShape.{MethodShape}
use Rattle.jv_types.specs.declared.shapes.Shape.{Shape}
use Rattle.jv_world.specs.Refusals.{IsLeastName}
use Rattle.jv_world.specs.Worlds.{IsNamed, IsCircular, HasWrongSuper}
use Rattle.jv_resolve.specs.Members.{IsMethod, IsMethodCalled}
use Rattle.jv_resolve.specs.Overriding.{Overrides}
use Rattle.av_conditions.specs.Initialisers.{IsApplicationClass}

-- no class has this name and fails for this cause
abbrev pub NoName : (List ℕ → Type 0) → Type 0
NoName P = (name : List ℕ) → ¬ P name

-- a final method (JVMS table 4.6-A)
abbrev pub IsFinalMethod : MethodShape → Type 0
IsFinalMethod method = bit_and method.flags.0 16 ≡ 16

-- a method of the application's class of this name overrides a final method other than itself (JVMS 5.4.5)
pub record OverridesFinal (w : List Shape) (name : List ℕ) : Type 0 where
  pub method : MethodId
  pub other : MethodId
  pub named : IsNamed w method.class.number name
  pub application : IsApplicationClass w method.class.number
  pub apart : ¬ (method ≡ other)
  pub overrides : Overrides w method other
  pub shape : MethodShape
  pub place : IsMethod w other shape
  pub final : IsFinalMethod shape

-- Of these classes one fails a rule on supertypes: that it is none of its own (rule 8), then that they are of the
-- right kinds (rule 9), then that it overrides no final method (rule 10); and this is the least name at which one does.
pub data FailsHierarchy (w : List Shape) (rule : Rule) (name : List ℕ) : Type 0 where
  by_circle : rule ≡ rules.Circular → IsLeastName (IsCircular w) name → FailsHierarchy w rule name
  by_kind : rule ≡ rules.SuperKind → NoName (IsCircular w) → IsLeastName (HasWrongSuper w) name → FailsHierarchy w rule name
  by_final : rule ≡ rules.FinalOverridden → NoName (IsCircular w) → NoName (HasWrongSuper w) → IsLeastName (OverridesFinal w) name
      → FailsHierarchy w rule name

-- no class fails one
pub record PassesHierarchy (w : List Shape) : Type 0 where
  pub no_circle : NoName (IsCircular w)
  pub right : NoName (HasWrongSuper w)
  pub no_final : NoName (OverridesFinal w)

-- no class declares two methods of one name and descriptor (JVMS 4.6)
abbrev pub HaveDistinctMethods : List Shape → Type 0
HaveDistinctMethods w =
    (m n : MethodId) (x y : MethodShape) → m.class ≡ n.class → IsMethod w m x → IsMethod w n y → IsMethodCalled x.name x.desc y → m ≡ n
