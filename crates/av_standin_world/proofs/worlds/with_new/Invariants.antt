use Rattle.std.proofs.Common.{◌≡◌, ◌++◌, map, take}
use Rattle.std.specs.List.{filter}
use Rattle.av_standin_world.specs.Steps.{is_new_sketch, new_shape}
use Rattle.av_standin_world.proofs.worlds.with_new.Given as goal

abbrev pub invariant-loop-sketch : goal.invariant-loop-sketch
invariant-loop-sketch l = l.shapes.items ≡ l.fn.kept.items ++ map new_shape (filter (is_new_sketch l.world) (take l.sketch-index l.sketches))
