-- By the superinterfaces, or by the superclass.
use Rattle.std.proofs.Common.{ℕ, List, subst}
use Rattle.jv_types.specs.declared.ids.ClassId.{ClassId}
use Rattle.jv_world.specs.Worlds.{IsNamed, HasSuper}
use Rattle.jv_resolve.specs.DepthFirst.{LeadsUpTo, IsFirstLeading, IsFirstWay}
use Rattle.jv_resolve.specs.Steps.Targets.{IsTarget, NoneLeads}
use Rattle.jv_resolve.proofs.Going.{way_interface, way_parent, no_way, no_way_parent}
use Rattle.jv_resolve.proofs.Tests.{some_weaker, none_weaker}
use Rattle.jv_resolve.proofs.depth_first.first_way.Goals as goal

pub returns-in-Some-clause-found : goal.returns-in-Some-clause-found
returns-in-Some-clause-found c =
    way_interface c.args.world.now (IsTarget c.args.targets.now) c.args.c.number c.shape-shape.result.now c.in-Some.d.number c.shape-shape.ensures.shape
    (subst (λ (names : List (List ℕ)). IsFirstLeading c.args.world.now (IsTarget c.args.targets.now) names c.in-Some.d.number) c.as_slice.ensures c.in-Some.ensures.found)

pub returns-in-None-clause-none : goal.returns-in-None-clause-none
returns-in-None-clause-none c =
    no_way c.args.world.now (IsTarget c.args.targets.now) c.args.c.number c.shape-shape.result.now c.shape-shape.ensures.shape
    (subst (NoneLeads c.args.world.now (IsTarget c.args.targets.now)) c.as_slice.ensures c.in_default.ensures.none) c.in-None.is

pub returns-in-Some-parent-clause-found : goal.returns-in-Some-parent-clause-found
returns-in-Some-parent-clause-found c =
    some_weaker c.leading.result
    (λ (d : ClassId). IsNamed c.args.world.now d.number c.in-Some-parent.name × LeadsUpTo c.args.world.now (IsTarget c.args.targets.now) d.number)
    (λ (d : ClassId). IsFirstWay c.args.world.now (IsTarget c.args.targets.now) c.args.c.number d.number)
    (λ d p. way_parent c.args.world.now (IsTarget c.args.targets.now) c.args.c.number c.shape-shape.result.now c.in-Some-parent.name d.number c.shape-shape.ensures.shape
    (subst (NoneLeads c.args.world.now (IsTarget c.args.targets.now)) c.as_slice.ensures c.in_default.ensures.none) c.in-Some-parent.is p.0 p.1)
    c.leading.ensures.found

pub returns-in-Some-parent-clause-none : goal.returns-in-Some-parent-clause-none
returns-in-Some-parent-clause-none c =
    none_weaker c.leading.result
    ((d : ℕ) → IsNamed c.args.world.now d c.in-Some-parent.name → LeadsUpTo c.args.world.now (IsTarget c.args.targets.now) d → ⊥)
    ((d : ℕ) → HasSuper c.args.world.now c.args.c.number d → LeadsUpTo c.args.world.now (IsTarget c.args.targets.now) d → ⊥)
    (λ p. no_way_parent c.args.world.now (IsTarget c.args.targets.now) c.args.c.number c.shape-shape.result.now c.in-Some-parent.name c.shape-shape.ensures.shape
    (subst (NoneLeads c.args.world.now (IsTarget c.args.targets.now)) c.as_slice.ensures c.in_default.ensures.none) c.in-Some-parent.is p)
    c.leading.ensures.none
