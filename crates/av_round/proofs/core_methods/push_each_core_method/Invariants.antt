use Rattle.av_named.specs.Appending.{Appends, OfPlacesBelow}
use Rattle.av_round.specs.Seeds.{CoreAt}
use Rattle.av_round.proofs.core_methods.push_each_core_method.Given as goal

abbrev pub invariant-loop-place : goal.invariant-loop-place
invariant-loop-place l = Appends (OfPlacesBelow l.place (CoreAt l.class) l.methods) l.initial.out.items l.out.items
