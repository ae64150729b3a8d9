use Rattle.jv_world.proofs.Searching.{IsUnmarked}
use Rattle.jv_world.proofs.closure.unmark.Given as goal

abbrev pub invariant-loop-class : goal.invariant-loop-class
invariant-loop-class l = IsUnmarked l.found l.class-index l.marks
