use Rattle.av_conditions.proofs.Entering.{not_declared}
use Rattle.av_conditions.proofs.initialisers.own_initialiser.Goals as goal

pub returns-in_default-clause-none : goal.returns-in_default-clause-none
returns-in_default-clause-none c = not_declared c.args.world.now c.args.c.number c.args.name.now c.args.desc.now c.requires.name c.requires.desc c.in_default.ensures.none
