use Rattle.av_load.proofs.Stops.{no_stop, one_list, one_stop}
use Rattle.av_load.proofs.laws.files_stop_in_one_way.Goals as goal

pub returns-clause-one_stop : goal.returns-clause-one_stop
returns-clause-one_stop _ = one_stop

pub returns-clause-no_stop : goal.returns-clause-no_stop
returns-clause-no_stop _ = no_stop

pub returns-clause-one_list : goal.returns-clause-one_list
returns-clause-one_list _ = one_list
