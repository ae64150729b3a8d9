-- The pairs so far are those of the members so far, which differ.
pub mod Steps
use Rattle.jv_class.proofs.distinct.are_distinct.Invariants.Steps.{SoFar}
use Rattle.jv_class.proofs.distinct.are_distinct.Given as goal

abbrev pub invariant-loop-member : goal.invariant-loop-member
invariant-loop-member l = SoFar l.numbers l.members l.member-index l.pairs
