-- What the methods so far have.
use Rattle.av_given.specs.Steps.Adding.{Adds, SomeBefore}
use Rattle.av_given.specs.Steps.Parts.{MemberHasBody, MemberNames}
use Rattle.av_given.proofs.methods.add_class.Given as goal

abbrev pub invariant-loop-index : goal.invariant-loop-index
invariant-loop-index l =
    Adds (SomeBefore (λ place. MemberNames l.class) l.members l.index) l.fn.found.maps.items l.grown.maps.items
    × Adds (SomeBefore (MemberHasBody l.class) l.members l.index) l.fn.found.bodies.items l.grown.bodies.items
