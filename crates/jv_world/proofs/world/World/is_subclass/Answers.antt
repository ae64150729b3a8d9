use Rattle.jv_world.proofs.Subclasses.{reach_more, reached, not_reached}
use Rattle.jv_world.proofs.world.World.is_subclass.Goals as goal

pub returns-in-None-clause-exact : goal.returns-in-None-clause-exact
returns-in-None-clause-exact c =
    not_reached c.args.self.now c.args.c.number c.args.d.number c.loop-links.links c.loop-links.class.number c.loop-links.invariant c.if-class-d.false c.in-None.ensures.none

pub loop-links-preserved : goal.loop-links-preserved
loop-links-preserved c =
    reach_more c.args.self.now c.args.c.number c.args.d.number c.loop-links.links c.loop-links.class.number c.in-Some.parent.number c.loop-links.invariant c.if-class-d.false c.in-Some.ensures.found

pub returns-then-class-d-clause-exact : goal.returns-then-class-d-clause-exact
returns-then-class-d-clause-exact c =
    reached c.args.self.now c.args.c.number c.args.d.number c.loop-links.links c.loop-links.class.number c.loop-links.invariant c.if-class-d.true
