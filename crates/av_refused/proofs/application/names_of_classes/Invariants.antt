use Rattle.std.proofs.Common.{◌≡◌, map, take}
use Rattle.av_refused.specs.Firsts.{shape_name}
use Rattle.av_refused.proofs.application.names_of_classes.Given as goal

abbrev pub invariant-loop-shape : goal.invariant-loop-shape
invariant-loop-shape l = l.names ≡ map shape_name (take l.shape-index l.shapes)
