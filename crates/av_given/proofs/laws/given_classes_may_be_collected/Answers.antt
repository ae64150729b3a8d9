use Rattle.av_given.proofs.Asked.{are_given}
use Rattle.av_given.proofs.laws.given_classes_may_be_collected.Goals as goal

pub returns : goal.returns
returns c = are_given
