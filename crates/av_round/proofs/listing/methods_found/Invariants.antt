use Rattle.std.proofs.Common.{Contains}
use Rattle.av_forcing.specs.declared.fact.RoundFact.TheVariants.{Method}
use Rattle.av_round.specs.Steps.{ArePlacesBelow}
use Rattle.av_round.proofs.listing.methods_found.Given as goal

abbrev pub invariant-loop-place : goal.invariant-loop-place
invariant-loop-place l = ArePlacesBelow (λ place. Contains l.found (Method l.class place)) l.place l.places.items
