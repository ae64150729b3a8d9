use Rattle.av_one_standin.proofs.Choices.{one_part}
use Rattle.av_one_standin.proofs.kinds.parts_have_one.Goals as goal

pub returns : goal.returns
returns c = one_part
