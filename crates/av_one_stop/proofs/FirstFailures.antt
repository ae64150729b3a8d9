-- Of some classes one rule on supertypes fails at one class.
use Rattle.std.proofs.Common.{◌≡◌, ℕ, List, sym, ◌∙◌}
use Rattle.jv_types.specs.declared.rule.Rule.{Rule}
use Rattle.jv_types.specs.declared.shapes.Shape.{Shape}
use Rattle.jv_world.specs.Refusals.{IsLeastName}
use Rattle.jv_world.specs.Worlds.{IsCircular, HasWrongSuper}
use Rattle.av_hierarchy.specs.Hierarchy.{FailsHierarchy, OverridesFinal, PassesHierarchy, by_circle, by_kind, by_final}
use Rattle.av_one_application.proofs.Answering.{least_one}

one_least : (P : List ℕ → Type 0) (a b : List ℕ) → IsLeastName P a → IsLeastName P b → a ≡ b
one_least P a b p q = least_one P P (λ n h. h) (λ n h. h) a b p q

pub one_failure : (w : List Shape) (rule another : Rule) (name named : List ℕ) → FailsHierarchy w rule name → FailsHierarchy w another named → (rule ≡ another) × (name ≡ named)
one_failure w rule another name named (by_circle is p) (by_circle its q) = (is ∙ sym its, one_least (IsCircular w) name named p q)
one_failure w rule another name named (by_circle is p) (by_kind its none q) = absurd (none name p.holds)
one_failure w rule another name named (by_circle is p) (by_final its none right q) = absurd (none name p.holds)
one_failure w rule another name named (by_kind is none p) (by_circle its q) = absurd (none named q.holds)
one_failure w rule another name named (by_kind is none p) (by_kind its same q) = (is ∙ sym its, one_least (HasWrongSuper w) name named p q)
one_failure w rule another name named (by_kind is none p) (by_final its same right q) = absurd (right name p.holds)
one_failure w rule another name named (by_final is none right p) (by_circle its q) = absurd (none named q.holds)
one_failure w rule another name named (by_final is none right p) (by_kind its same q) = absurd (right named q.holds)
one_failure w rule another name named (by_final is none right p) (by_final its same also q) = (is ∙ sym its, one_least (OverridesFinal w) name named p q)

pub no_failure : (w : List Shape) (rule : Rule) (name : List ℕ) → FailsHierarchy w rule name → PassesHierarchy w → ⊥
no_failure w rule name (by_circle is p) passed = passed.no_circle name p.holds
no_failure w rule name (by_kind is none p) passed = passed.right name p.holds
no_failure w rule name (by_final is none right p) passed = passed.no_final name p.holds
