use Rattle.std.proofs.Common.{take}
use Rattle.av_refused.specs.Firsts.{NoneOf, NamesOne}
use Rattle.av_refused.proofs.application.first_naming.Given as goal

abbrev pub invariant-loop-shape : goal.invariant-loop-shape
invariant-loop-shape l = NoneOf (NamesOne l.list) (take l.shape-index l.shapes)
