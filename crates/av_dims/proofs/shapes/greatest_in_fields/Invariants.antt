use Rattle.std.proofs.Common.{take}
use Rattle.av_dims.specs.Greatest.{IsGreatest, OfSome, FieldDims}
use Rattle.av_dims.proofs.shapes.greatest_in_fields.Given as goal

abbrev pub invariant-loop-field : goal.invariant-loop-field
invariant-loop-field l = IsGreatest (OfSome FieldDims (take l.field-index l.fields)) l.dims
