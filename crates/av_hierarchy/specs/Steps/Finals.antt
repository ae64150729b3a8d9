-- The search for methods that override final ones.
use Rattle.std.specs.Prelude.{◌≡◌, ℕ, ◌<◌, if◌then◌else◌, List, Option, None, Some}
use Rattle.std.specs.Ordering.{nat_cmp, is_gt}
use Rattle.std.specs.Cmp.Lexicographic.{slice_cmp}
use Rattle.jv_types.specs.declared.ids.MethodId.{MethodId}
use Rattle.jv_types.specs.declared.shapes.MethodShape.{MethodShape}
use Rattle.jv_types.specs.declared.shapes.Shape.{Shape}
use Rattle.jv_world.specs.Refusals.{IsLeastName}
use Rattle.jv_world.specs.Worlds.{IsNamed}
use Rattle.jv_resolve.specs.Members.{IsMethod}
use Rattle.jv_resolve.specs.Overriding.{Overrides}
use Rattle.av_conditions.specs.Initialisers.{IsApplicationClass}
use Rattle.av_hierarchy.specs.Hierarchy.{IsFinalMethod}

-- the method is final
abbrev pub IsFinalIn : List Shape → MethodId → Type 0
IsFinalIn w m = (shape : MethodShape) × IsMethod w m shape × IsFinalMethod shape

-- the method overrides a final one of the class d
abbrev pub OverridesFinalOf : List Shape → MethodId → ℕ → Type 0
OverridesFinalOf w m d =
    (other : MethodId) × (shape : MethodShape) × (other.class.number ≡ d) × Overrides w m other × IsMethod w other shape × IsFinalMethod shape

-- it overrides one other than itself
abbrev pub MethodOverridesFinal : List Shape → MethodId → Type 0
MethodOverridesFinal w m =
    (other : MethodId) × (shape : MethodShape) × ¬ (m ≡ other) × Overrides w m other × IsMethod w other shape × IsFinalMethod shape

-- a class of the application has a method that does
abbrev pub OverridesFinalAt : List Shape → ℕ → Type 0
OverridesFinalAt w c = IsApplicationClass w c × (m : MethodId) × (m.class.number ≡ c) × MethodOverridesFinal w m

-- one of the first classes, of this name, does
abbrev pub OverridesFinalBefore : List Shape → ℕ → List ℕ → Type 0
OverridesFinalBefore w n name = (c : ℕ) × (c < n) × IsNamed w c name × OverridesFinalAt w c

-- the lesser of the best name so far and this one
abbrev pub lesser_name : Option (List ℕ) → List ℕ → Option (List ℕ)
lesser_name None name = Some name
lesser_name (Some best) name = if is_gt (slice_cmp nat_cmp best name) then Some name else Some best

-- the least name of P, if it has any
abbrev pub IsLeastOf : (List ℕ → Type 0) → Option (List ℕ) → Type 0
IsLeastOf P None = (name : List ℕ) → ¬ P name
IsLeastOf P (Some best) = IsLeastName P best
