use Rattle.av_tables.specs.Steps.{AreMembers, InPlacesBelow, known}
use Rattle.av_tables.proofs.members.note_methods.Given as goal

abbrev pub invariant-loop-place : goal.invariant-loop-place
invariant-loop-place l = AreMembers (InPlacesBelow l.class l.place) (known l.classes) l.rows.items
