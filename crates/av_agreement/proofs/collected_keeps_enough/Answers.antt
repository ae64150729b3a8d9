use Rattle.av_agreement.proofs.Kept.{enough}
use Rattle.av_agreement.proofs.collected_keeps_enough.Goals as goal

pub returns : goal.returns
returns _ = λ given library found are_given map collected passed world distinct. enough given library found are_given map collected passed world distinct
