use Rattle.av_load.proofs.FileNames.{HasNoPart}
use Rattle.av_load.proofs.names.has_stand_in_part.Given as goal

abbrev pub invariant-loop-start : goal.invariant-loop-start
invariant-loop-start l = HasNoPart l.name l.start
