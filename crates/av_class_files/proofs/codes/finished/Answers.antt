-- What is ready may be finished.
use Rattle.av_class_files.proofs.codes.finished.Goals as goal

pub finish-requires : goal.finish-requires
finish-requires c = c.requires.may c.args.pool.now
