use Rattle.jv_world.specs.Whole.{AreMarks, IsWhole}
use Rattle.jv_world.proofs.whole.whole_classes.Given as goal

abbrev pub invariant-loop-place : goal.invariant-loop-place
invariant-loop-place l = AreMarks (IsWhole l.shapes) l.place l.marks.items
