-- The world has the class.
use Rattle.av_class_files.proofs.There.{class_there}
use Rattle.av_class_files.proofs.file.class_of.Goals as goal

pub unreachable-requires : goal.unreachable-requires
unreachable-requires c = class_there c.args.world.now c.args.name.now c.requires c.in-None.ensures.none
