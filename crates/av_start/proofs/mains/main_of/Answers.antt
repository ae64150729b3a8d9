use Rattle.av_start.proofs.Missing.{if_without_main, without_class}
use Rattle.av_start.proofs.mains.main_of.Goals as goal

pub returns-in-None-clause-none : goal.returns-in-None-clause-none
returns-in-None-clause-none c = without_class _ _ c.in-None.ensures.none

pub returns-in-Some-clause-none : goal.returns-in-Some-clause-none
returns-in-Some-clause-none c =
    if_without_main _ _ _ _ c.in-Some.ensures.world c.in-Some.ensures.found c.main_of_class.ensures.none
