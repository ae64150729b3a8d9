use Rattle.std.proofs.Common.{◌∙◌}
use Rattle.av_standin_world.proofs.Naming.{flipped, new_by}
use Rattle.av_standin_world.proofs.worlds.is_new.Goals as goal

pub returns : goal.returns
returns c = flipped c.class.result c.is_none.result c.is_none.ensures ∙ new_by c.args.world.now c.args.sketch.now.name c.class.result c.class.ensures.found c.class.ensures.none
