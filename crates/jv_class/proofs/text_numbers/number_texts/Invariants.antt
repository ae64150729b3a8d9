-- The texts so far have their numbers.
pub mod Steps
use Rattle.jv_class.proofs.text_numbers.number_texts.Invariants.Steps.{SoFar}
use Rattle.jv_class.proofs.text_numbers.number_texts.Given as goal

abbrev pub invariant-loop-place : goal.invariant-loop-place
invariant-loop-place l = SoFar l.pool l.place l.known l.numbers.items
