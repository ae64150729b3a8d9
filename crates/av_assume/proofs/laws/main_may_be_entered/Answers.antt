use Rattle.av_assume.proofs.Beginning.{may_enter_main}
use Rattle.av_assume.proofs.laws.main_may_be_entered.Goals as goal

pub returns : goal.returns
returns c = may_enter_main
