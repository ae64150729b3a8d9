-- Which rules on supertypes a world passes, and what is said of one that fails the last.
use Rattle.std.proofs.Common.{◌≡◌, ℕ, List, Option, Some, None, Bor, option_copied, refl, sym, subst}
use Rattle.jv_types.specs.declared.rule.Rule.TheVariants as rules
use Rattle.jv_types.specs.declared.shapes.Shape.{Shape}
use Rattle.jv_world.specs.declared.refusal.HierRefusal.TheVariants.{Missing}
use Rattle.jv_world.specs.Refusals.{HasCause, IsLeastName}
use Rattle.jv_world.specs.Worlds.{IsAbsent, IsCircular, HasWrongSuper, IsWorld}
use Rattle.jv_resolve.proofs.Hierarchy.{not_below_itself}
use Rattle.av_hierarchy.specs.Hierarchy.{FailsHierarchy, by_final, NoName, OverridesFinal, PassesHierarchy}
use Rattle.av_hierarchy.specs.Steps.Finals.{IsLeastOf}

pub none_absent : (w : List Shape) (name : List ℕ) → ((absent : List ℕ) → IsAbsent w absent → ⊥) → HasCause w (Missing name) → ⊥
none_absent w name there cause = there name cause.holds

no_circle : (w : List Shape) → IsWorld w → NoName (IsCircular w)
no_circle w world name p = not_below_itself w world p.0 p.0 p.2 refl

right : (w : List Shape) → IsWorld w → NoName (HasWrongSuper w)
right w world name p = p.3 (world.right_supers p.0 p.1)

-- no least name
none_least : (P : List ℕ → Type 0) (o : Option (Bor (List ℕ))) → o ≡ None → IsLeastOf P (option_copied o) → (name : List ℕ) → P name → ⊥
none_least P o is least = subst (λ (x : Option (Bor (List ℕ))). IsLeastOf P (option_copied x)) is least

least_at : (P : List ℕ → Type 0) (o : Option (Bor (List ℕ))) (r : Bor (List ℕ)) → o ≡ Some r → IsLeastOf P (option_copied o) → IsLeastName P r.now
least_at P o r is least = subst (λ (x : Option (Bor (List ℕ))). IsLeastOf P (option_copied x)) is least

pub passes : (w : List Shape) (o : Option (Bor (List ℕ))) → IsWorld w → o ≡ None → IsLeastOf (OverridesFinal w) (option_copied o) → PassesHierarchy w
passes w o world is least = record {
  no_circle = no_circle w world;
  right = right w world;
  no_final = none_least (OverridesFinal w) o is least;
}

pub refused_final : (w v : List Shape) (o : Option (Bor (List ℕ))) (r : Bor (List ℕ)) (made : List ℕ) → v ≡ w → IsWorld v → o ≡ Some r → made ≡ r.now
    → IsLeastOf (OverridesFinal v) (option_copied o) → FailsHierarchy w rules.FinalOverridden made
refused_final w v o r made built world is copied least =
    let own : FailsHierarchy v rules.FinalOverridden r.now = by_final refl (no_circle v world) (right v world) (least_at (OverridesFinal v) o r is least) in
    let named : FailsHierarchy v rules.FinalOverridden made = subst (FailsHierarchy v rules.FinalOverridden) (sym copied) own in
    subst (λ (l : List Shape). FailsHierarchy l rules.FinalOverridden made) built named
