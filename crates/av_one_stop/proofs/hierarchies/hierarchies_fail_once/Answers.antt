use Rattle.av_one_stop.proofs.FirstFailures.{no_failure, one_failure}
use Rattle.av_one_stop.proofs.hierarchies.hierarchies_fail_once.Goals as goal

pub returns-clause-failure : goal.returns-clause-failure
returns-clause-failure _ = one_failure

pub returns-clause-apart : goal.returns-clause-apart
returns-clause-apart _ = no_failure
