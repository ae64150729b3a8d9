use Rattle.std.proofs.Common.{take}
use Rattle.av_named.specs.Appending.{Appends, OfEach}
use Rattle.av_tables.specs.Steps.{known}
use Rattle.av_round.specs.Seeds.{RowFinds}
use Rattle.av_round.proofs.references.push_members.Given as goal

abbrev pub invariant-loop-row : goal.invariant-loop-row
invariant-loop-row l = Appends (OfEach (RowFinds l.world (known l.classes)) (take l.row-index l.rows)) l.initial.out.items l.out.items
