-- The class that was reached is a target, or one goes on from it, or nothing leads to a target.
use Rattle.jv_resolve.specs.Steps.Targets.{IsTarget}
use Rattle.jv_resolve.proofs.Going.{going_more, going_found, going_end}
use Rattle.jv_resolve.proofs.Tests.{denied}
use Rattle.jv_resolve.proofs.depth_first.first_target.Goals as goal

pub returns-then-is_target-clause-found : goal.returns-then-is_target-clause-found
returns-then-is_target-clause-found c =
    going_found c.args.world.now (IsTarget c.args.targets.now) c.args.c.number c.loop-links.links c.loop-links.class.number c.loop-links.invariant (c.is_target.ensures.0 c.if-is_target.true)

pub returns-in-None-clause-none : goal.returns-in-None-clause-none
returns-in-None-clause-none c =
    going_end c.args.world.now (IsTarget c.args.targets.now) c.args.c.number c.loop-links.links c.loop-links.class.number c.loop-links.invariant
    (denied c.is_target.result c.if-is_target.false c.is_target.ensures.1) c.in-None.ensures.none

pub loop-links-preserved : goal.loop-links-preserved
loop-links-preserved c =
    going_more c.args.world.now (IsTarget c.args.targets.now) c.args.c.number c.loop-links.links c.loop-links.class.number c.in-Some.next.number c.loop-links.invariant
    (denied c.is_target.result c.if-is_target.false c.is_target.ensures.1) c.in-Some.ensures.found
