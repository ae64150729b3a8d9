use Rattle.av_refused.proofs.Marks.{NoMarkBelow}
use Rattle.av_refused.proofs.unfit.has_mark.Given as goal

abbrev pub invariant-loop-start : goal.invariant-loop-start
invariant-loop-start l = NoMarkBelow l.name l.start
