use Rattle.av_model.proofs.Raised.{may_raise}
use Rattle.av_model.proofs.laws.raises_are_steps.Goals as goal

pub returns : goal.returns
returns c = may_raise
