use Rattle.av_variables.proofs.Joining.{joined_only}
use Rattle.av_variables.proofs.laws.moved_into_variables.Goals as goal

pub returns : goal.returns
returns c = λ p from to label premises analysable joined forced. joined_only p from to label premises analysable joined forced
