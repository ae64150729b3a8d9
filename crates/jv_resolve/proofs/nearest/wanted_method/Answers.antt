-- What is wanted is declared.
use Rattle.jv_resolve.proofs.Climbing.{none_declared}
use Rattle.jv_resolve.proofs.nearest.wanted_method.Goals as goal

pub returns-in_default-clause-none : goal.returns-in_default-clause-none
returns-in_default-clause-none c = none_declared c.args.world.now c.args.name.now c.args.desc.now c.args.wanted c.args.c.number c.in_default.ensures.none
