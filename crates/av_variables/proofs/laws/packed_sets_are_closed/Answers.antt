use Rattle.av_variables.proofs.Heading.{expanded_closed}
use Rattle.av_variables.specs.Packing.{HasPacked}
use Rattle.av_variables.proofs.laws.packed_sets_are_closed.Goals as goal

pub returns : goal.returns
returns c = λ p number set closed. expanded_closed p number (HasPacked set) closed
