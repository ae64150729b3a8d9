use Rattle.std.proofs.Common.{take}
use Rattle.av_named.specs.Appending.{Appends, OfEach}
use Rattle.av_named.specs.Named.{ShapeNames}
use Rattle.av_named.proofs.application.names_of_shapes.Given as goal

abbrev pub invariant-loop-shape : goal.invariant-loop-shape
invariant-loop-shape l = Appends (OfEach ShapeNames (take l.shape-index l.shapes)) l.initial.out.items l.out.items
