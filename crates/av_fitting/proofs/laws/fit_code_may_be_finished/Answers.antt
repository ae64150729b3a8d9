-- Each instruction stands where its number says.
use Rattle.av_fitting.proofs.Finished.{may_finish}
use Rattle.av_fitting.proofs.laws.fit_code_may_be_finished.Goals as goal

pub returns : goal.returns
returns c = may_finish
