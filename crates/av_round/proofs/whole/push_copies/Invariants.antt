use Rattle.std.proofs.Common.{take, Contains}
use Rattle.av_named.specs.Appending.{Appends}
use Rattle.av_round.proofs.whole.push_copies.Given as goal

abbrev pub invariant-loop-shape : goal.invariant-loop-shape
invariant-loop-shape l = Appends (Contains (take l.shape-index l.shapes)) l.initial.out.items l.out.items
