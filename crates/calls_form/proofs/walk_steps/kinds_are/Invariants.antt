-- What is left is alike where all is.
use Rattle.std.proofs.Common.{◌≡◌, length}
use Rattle.calls_form.specs.ClassesWalk.{kinds_are}
use Rattle.calls_form.proofs.walk_steps.kinds_are.Given as goal

abbrev pub invariant-loop-one : goal.invariant-loop-one
invariant-loop-one l = kinds_are l.ones l.twos ≡ kinds_are l.some l.others

abbrev pub decreases-loop-one : goal.decreases-loop-one
decreases-loop-one l = length l.ones
