use Rattle.std.proofs.Common.{◌≡◌, map}
use Rattle.av_sketching.specs.Steps.{sketched_shape}
use Rattle.av_sketching.proofs.placed.shapes_of.Given as goal

abbrev pub invariant-loop-method : goal.invariant-loop-method
invariant-loop-method l = l.shapes.items ≡ map sketched_shape l.yielded
