use Rattle.av_one_standin.proofs.Choices.{one_collected}
use Rattle.av_one_standin.proofs.kinds.collected_classes_have_one.Goals as goal

pub returns : goal.returns
returns c = one_collected
