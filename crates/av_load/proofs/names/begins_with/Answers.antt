use Rattle.av_load.proofs.FileNames.{begins}
use Rattle.av_load.proofs.names.begins_with.Goals as goal

pub returns : goal.returns
returns c = begins c.args.name.now c.args.front.now c.starts_with.result c.starts_with.ensures.value
