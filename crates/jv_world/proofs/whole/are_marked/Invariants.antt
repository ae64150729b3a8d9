use Rattle.std.proofs.Common.{ℕ, IsTrue, take}
use Rattle.jv_world.specs.Steps.Building.{Has, marked}
use Rattle.jv_world.proofs.whole.are_marked.Given as goal

abbrev pub invariant-loop-class : goal.invariant-loop-class
invariant-loop-class l = (n : ℕ) → Has (take l.class-index l.classes) n → IsTrue (marked l.marks n)
