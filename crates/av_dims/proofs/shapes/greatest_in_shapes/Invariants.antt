use Rattle.std.proofs.Common.{take}
use Rattle.av_dims.specs.Greatest.{IsGreatest, OfSome, ShapeDims}
use Rattle.av_dims.proofs.shapes.greatest_in_shapes.Given as goal

abbrev pub invariant-loop-shape : goal.invariant-loop-shape
invariant-loop-shape l = IsGreatest (OfSome ShapeDims (take l.shape-index l.shapes)) l.dims
