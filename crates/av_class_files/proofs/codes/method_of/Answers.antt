-- The first method of the name and descriptor is the one.
use Rattle.av_class_files.proofs.Building.{first_is}
use Rattle.av_class_files.proofs.codes.method_of.Goals as goal

pub returns-clause-shape : goal.returns-clause-shape
returns-clause-shape c = first_is c.args.world.now c.args.class.number c.in-Some.index c.args.method.now c.requires c.in-Some.ensures.found
