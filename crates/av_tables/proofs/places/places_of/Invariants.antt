use Rattle.av_tables.specs.Steps.{ArePlacesBelow}
use Rattle.av_tables.proofs.places.places_of.Given as goal

abbrev pub invariant-loop-at : goal.invariant-loop-at
invariant-loop-at l = ArePlacesBelow l.at l.names l.files l.places.items
