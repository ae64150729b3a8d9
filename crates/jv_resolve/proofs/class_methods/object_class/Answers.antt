-- The name is Object's.
use Rattle.std.proofs.Common.{◌≡◌, ℕ, List, subst}
use Rattle.std.specs.Prelude.{IfNone, IfSome}
use Rattle.jv_types.specs.declared.ids.ClassId.{ClassId}
use Rattle.jv_world.specs.Worlds.{IsNamed, object_name}
use Rattle.jv_resolve.proofs.Tests.{some_weaker}
use Rattle.jv_resolve.proofs.class_methods.object_class.Goals as goal

pub returns-clause-found : goal.returns-clause-found
returns-clause-found c =
    subst (λ (n : List ℕ). IfSome c.class.result (λ (k : ClassId). IsNamed c.args.world.now k.number n)) c.in_ok-name.ensures c.class.ensures.found

pub returns-clause-one : goal.returns-clause-one
returns-clause-one c =
    some_weaker c.class.result (λ (k : ClassId). IsNamed c.args.world.now k.number object_name) (λ (k : ClassId). (d : ℕ) → IsNamed c.args.world.now d object_name → d ≡ k.number)
    (λ k named d other. c.class.ensures.world.numbered.distinct d k.number object_name other named)
    (subst (λ (n : List ℕ). IfSome c.class.result (λ (k : ClassId). IsNamed c.args.world.now k.number n)) c.in_ok-name.ensures c.class.ensures.found)

pub returns-clause-none : goal.returns-clause-none
returns-clause-none c =
    subst (λ (n : List ℕ). IfNone c.class.result ((d : ℕ) → IsNamed c.args.world.now d n → ⊥)) c.in_ok-name.ensures c.class.ensures.none
