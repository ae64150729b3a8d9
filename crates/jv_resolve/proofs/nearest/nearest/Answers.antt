-- The class that was reached declares no wanted method.
use Rattle.jv_resolve.specs.Steps.Wanted.{IsWanted}
use Rattle.jv_resolve.proofs.Climbing.{climb_more, climb_end}
use Rattle.jv_resolve.proofs.nearest.nearest.Goals as goal

pub returns-in-None-clause-none : goal.returns-in-None-clause-none
returns-in-None-clause-none c =
    climb_end c.args.world.now (IsWanted c.args.world.now c.args.name.now c.args.desc.now c.args.wanted) c.args.c.number c.loop-links.links c.loop-links.class.number
    c.loop-links.invariant c.in_default.ensures.none c.in-None.ensures.none

pub loop-links-preserved : goal.loop-links-preserved
loop-links-preserved c =
    climb_more c.args.world.now (IsWanted c.args.world.now c.args.name.now c.args.desc.now c.args.wanted) c.args.c.number c.loop-links.links c.loop-links.class.number
    c.in-Some-superclass.parent.number c.loop-links.invariant c.in_default.ensures.none c.in-Some-superclass.ensures.found
