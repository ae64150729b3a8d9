use Rattle.std.proofs.Common.{take}
use Rattle.av_dims.specs.Greatest.{IsGreatest, OfSome, RowDims}
use Rattle.av_dims.proofs.codes.greatest_in_rows.Given as goal

abbrev pub invariant-loop-row : goal.invariant-loop-row
invariant-loop-row l = IsGreatest (OfSome RowDims (take l.row-index l.rows)) l.dims
