-- Each class by its kind.
use Rattle.av_finishable.proofs.Standins.{standin_finishable}
use Rattle.av_finishable.proofs.laws.standin_codes_are_finishable.Goals as goal

pub returns : goal.returns
returns c = standin_finishable
