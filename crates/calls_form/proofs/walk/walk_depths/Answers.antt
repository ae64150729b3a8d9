-- What is read is the depths of a walk, and each walk has its depths read.
use Rattle.calls_form.proofs.ClassesWalks.{walk_found, walk_malformed}
use Rattle.calls_form.proofs.walk.walk_depths.Goals as goal

pub returns-clause-found : goal.returns-clause-found
returns-clause-found c = walk_found c.args.class.now c.args.method.now c.read_walk.result c.read_walk.ensures

pub returns-clause-malformed : goal.returns-clause-malformed
returns-clause-malformed c = walk_malformed c.args.class.now c.args.method.now c.read_walk.result c.read_walk.ensures
