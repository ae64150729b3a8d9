use Rattle.std.proofs.Common.{take}
use Rattle.av_closure.specs.Steps.{AreShapes}
use Rattle.av_closure.proofs.shapes.shapes_of.Given as goal

abbrev pub invariant-loop-class : goal.invariant-loop-class
invariant-loop-class l = AreShapes l.files (take l.class-index l.classes) l.shapes.full.items l.shapes.reduced.items
