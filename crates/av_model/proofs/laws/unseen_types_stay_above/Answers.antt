use Rattle.av_model.proofs.Raised.{stays_above}
use Rattle.av_model.proofs.laws.unseen_types_stay_above.Goals as goal

pub returns : goal.returns
returns c = stays_above
