use Rattle.av_tables.specs.Steps.{known}
use Rattle.av_round.specs.Steps.{AreEntriesBelow}
use Rattle.av_round.proofs.listing.entries_of.Given as goal

abbrev pub invariant-loop-class : goal.invariant-loop-class
invariant-loop-class l = AreEntriesBelow (known l.classes) l.found l.class l.entries.items
