use Rattle.std.proofs.Common.{take}
use Rattle.av_named.specs.Appending.{Appends, OfEach}
use Rattle.av_named.specs.Named.{RowNames}
use Rattle.av_named.proofs.codes.names_of_rows.Given as goal

abbrev pub invariant-loop-row : goal.invariant-loop-row
invariant-loop-row l = Appends (OfEach RowNames (take l.row-index l.rows)) l.initial.out.items l.out.items
