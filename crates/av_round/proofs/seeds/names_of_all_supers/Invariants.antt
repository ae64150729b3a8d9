use Rattle.std.proofs.Common.{take}
use Rattle.av_named.specs.Appending.{Appends, OfEach}
use Rattle.av_round.specs.Seeds.{SuperOf}
use Rattle.av_round.proofs.seeds.names_of_all_supers.Given as goal

abbrev pub invariant-loop-shape : goal.invariant-loop-shape
invariant-loop-shape l = Appends (OfEach SuperOf (take l.shape-index l.app)) l.initial.out.items l.out.items
