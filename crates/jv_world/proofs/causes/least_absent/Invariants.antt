use Rattle.std.proofs.Common.{option_copied}
use Rattle.jv_world.specs.Steps.Causes.{IsLeastOf, IsAbsentBefore}
use Rattle.jv_world.proofs.causes.least_absent.Given as goal

abbrev pub invariant-loop-place : goal.invariant-loop-place
invariant-loop-place l = IsLeastOf (IsAbsentBefore l.shapes l.names l.place) (option_copied l.best)
