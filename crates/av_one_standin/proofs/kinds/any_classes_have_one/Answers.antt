use Rattle.av_one_standin.proofs.Choices.{one_any}
use Rattle.av_one_standin.proofs.kinds.any_classes_have_one.Goals as goal

pub returns : goal.returns
returns c = one_any
