use Rattle.av_tables.specs.Steps.{AreMembers, InClassesBelow, known}
use Rattle.av_tables.proofs.members.members_of.Given as goal

abbrev pub invariant-loop-class : goal.invariant-loop-class
invariant-loop-class l = AreMembers (InClassesBelow l.class) (known l.classes) l.rows.items
