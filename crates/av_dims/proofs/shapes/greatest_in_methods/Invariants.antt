use Rattle.std.proofs.Common.{take}
use Rattle.av_dims.specs.Greatest.{IsGreatest, OfSome, MethodDims}
use Rattle.av_dims.proofs.shapes.greatest_in_methods.Given as goal

abbrev pub invariant-loop-method : goal.invariant-loop-method
invariant-loop-method l = IsGreatest (OfSome MethodDims (take l.method-index l.methods)) l.dims
