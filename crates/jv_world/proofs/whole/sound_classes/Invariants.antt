use Rattle.jv_world.specs.Whole.{AreMarks, IsSound}
use Rattle.jv_world.proofs.whole.sound_classes.Given as goal

abbrev pub invariant-loop-place : goal.invariant-loop-place
invariant-loop-place l = AreMarks (IsSound l.shapes) l.place l.marks.items
