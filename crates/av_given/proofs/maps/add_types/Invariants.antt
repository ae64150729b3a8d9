-- The texts of the types so far.
use Rattle.av_given.specs.Steps.Adding.{Adds, SomeBefore}
use Rattle.av_given.specs.Steps.Parts.{TypeNames}
use Rattle.av_given.proofs.maps.add_types.Given as goal

abbrev pub invariant-loop-written : goal.invariant-loop-written
invariant-loop-written l = Adds (SomeBefore (λ place. TypeNames l.pool) l.types l.written-index) l.fn.texts.items l.named.items
