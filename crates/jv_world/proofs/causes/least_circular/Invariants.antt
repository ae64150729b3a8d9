use Rattle.std.proofs.Common.{option_copied}
use Rattle.jv_world.specs.Steps.Causes.{IsLeastOf, IsOwnBefore}
use Rattle.jv_world.proofs.causes.least_circular.Given as goal

abbrev pub invariant-loop-place : goal.invariant-loop-place
invariant-loop-place l = IsLeastOf (IsOwnBefore l.shapes l.rows l.place) (option_copied l.best)
