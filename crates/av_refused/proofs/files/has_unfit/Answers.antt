use Rattle.av_refused.proofs.Finding.{unfit_there}
use Rattle.av_refused.proofs.files.has_unfit.Goals as goal

pub returns-in-Some : goal.returns-in-Some
returns-in-Some c = unfit_there c.args.files.now c.args.class.now c.in-Some.file.now c.is_unfit.result c.requires.library c.in-Some.ensures.found c.is_unfit.ensures
