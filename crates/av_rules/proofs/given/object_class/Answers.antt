use Rattle.std.proofs.Common.{ℕ, List, subst}
use Rattle.jv_world.specs.Worlds.{IsNamed}
use Rattle.av_rules.proofs.Worlds.{object_there}
use Rattle.av_rules.proofs.given.object_class.Goals as goal

pub unreachable-requires : goal.unreachable-requires
unreachable-requires c =
    object_there c.args.world.now c.requires.core
    (subst (λ (n : List ℕ). (k : ℕ) → IsNamed c.args.world.now k n → ⊥) c.in_ok-name.ensures c.in-None.ensures.none)
