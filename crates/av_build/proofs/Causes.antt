-- None of the causes for which a list is no world holds of a world.
use Rattle.std.proofs.Common.{◌≡◌, ℕ, List, refl, subst}
use Rattle.jv_types.specs.declared.shapes.Shape.{Shape}
use Rattle.jv_world.specs.declared.refusal.HierRefusal.{HierRefusal}
use Rattle.jv_world.specs.declared.refusal.HierRefusal.TheVariants.{Missing, Circular, SuperKind}
use Rattle.jv_world.specs.Refusals.{HasCause}
use Rattle.jv_world.specs.Worlds.{IsWorld}
use Rattle.jv_resolve.proofs.Hierarchy.{not_below_itself}

module _ (w : List Shape) (world : IsWorld w) (why : HierRefusal) (name : List ℕ) (cause : HasCause w why) where
  pub none_missing : why ≡ Missing name → ⊥
  none_missing is = let h = subst (HasCause w) is cause in world.none_absent name h.holds

  pub none_circular : why ≡ Circular name → ⊥
  none_circular is = let h = (subst (HasCause w) is cause).1.holds in not_below_itself w world h.0 h.0 h.2 refl

  pub none_wrong : why ≡ SuperKind name → ⊥
  none_wrong is = let h = (subst (HasCause w) is cause).2.holds in h.3 (world.right_supers h.0 h.1)
