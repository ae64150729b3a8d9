use Rattle.std.proofs.Common.{take, Contains}
use Rattle.av_collected.specs.Answers.{Picks}
use Rattle.av_reduced.proofs.picking.picked.Given as goal

abbrev pub invariant-loop-place : goal.invariant-loop-place
invariant-loop-place g l = Picks (Contains (take l.place-index l.places)) 0 l.all l.picked.items
