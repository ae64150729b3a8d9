use Rattle.std.proofs.Common.{take}
use Rattle.av_named.specs.Appending.{Appends, OfEach}
use Rattle.av_tables.specs.Steps.{known}
use Rattle.av_round.specs.Seeds.{BodyFinds}
use Rattle.av_round.proofs.references.push_referenced.Given as goal

abbrev pub invariant-loop-method : goal.invariant-loop-method
invariant-loop-method l = Appends (OfEach (BodyFinds l.world (known l.classes)) (take l.method-index l.bodies)) l.initial.out.items l.out.items
