-- What the classes so far have.
use Rattle.std.proofs.Common.{[]}
use Rattle.av_given.specs.Steps.Adding.{Adds, SomeBefore}
use Rattle.av_given.specs.Steps.Parts.{ClassHasBody, ClassNames}
use Rattle.av_given.proofs.given.found_in.Given as goal

abbrev pub invariant-loop-class : goal.invariant-loop-class
invariant-loop-class l =
    Adds (SomeBefore (λ place. ClassNames) l.classes l.class-index) [] l.found.maps.items
    × Adds (SomeBefore (λ place. ClassHasBody) l.classes l.class-index) [] l.found.bodies.items
