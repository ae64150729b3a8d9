use Rattle.std.proofs.Common.{take}
use Rattle.av_refused.specs.Firsts.{NoneOf, HasNone}
use Rattle.av_refused.proofs.files.first_missing.Given as goal

abbrev pub invariant-loop-class : goal.invariant-loop-class
invariant-loop-class l = NoneOf (HasNone l.files) (take l.class-index l.classes)
