use Rattle.std.proofs.Common.{take}
use Rattle.av_dims.specs.Greatest.{IsGreatest, OfSome, BodyDims}
use Rattle.av_dims.proofs.codes.greatest_in_bodies.Given as goal

abbrev pub invariant-loop-method : goal.invariant-loop-method
invariant-loop-method l = IsGreatest (OfSome BodyDims (take l.method-index l.bodies)) l.dims
