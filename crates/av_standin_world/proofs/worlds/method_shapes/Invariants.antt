use Rattle.std.proofs.Common.{◌≡◌, map, take}
use Rattle.av_standin_world.specs.Steps.{shape_of}
use Rattle.av_standin_world.proofs.worlds.method_shapes.Given as goal

abbrev pub invariant-loop-method : goal.invariant-loop-method
invariant-loop-method l = l.shapes.items ≡ map shape_of (take l.method-index l.methods)
