use Rattle.std.proofs.Common.{take}
use Rattle.av_refused.specs.Firsts.{NoneOf, HasUnfit}
use Rattle.av_refused.proofs.files.first_unfit.Given as goal

abbrev pub invariant-loop-class : goal.invariant-loop-class
invariant-loop-class l = NoneOf (HasUnfit l.files) (take l.class-index l.classes)
