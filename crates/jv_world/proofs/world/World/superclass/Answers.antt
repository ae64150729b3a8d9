use Rattle.jv_world.proofs.Subtypes.{HasSuperclass-none}
use Rattle.jv_world.proofs.world.World.superclass.Goals as goal

pub returns-in-Some-clause-none : goal.returns-in-Some-clause-none
returns-in-Some-clause-none c =
    HasSuperclass-none c.args.self.now c.args.c.number c.shape.result.now c.in-Some.parent c.class.result c.shape.ensures.shape c.in-Some.is c.class.ensures.none
