use Rattle.std.proofs.Common.{take, All}
use Rattle.tests_collect.specs.Given.{IsFitBody}
use Rattle.tests_collect.proofs.given.are_fit.Given as goal

abbrev pub invariant-loop-method : goal.invariant-loop-method
invariant-loop-method l = All (IsFitBody l.shapes) (take l.method-index l.bodies)
