use Rattle.std.proofs.Common.{option_copied}
use Rattle.av_hierarchy.specs.Steps.Finals.{IsLeastOf, OverridesFinalBefore}
use Rattle.av_hierarchy.proofs.least.least_over_final.Given as goal

abbrev pub invariant-loop-place : goal.invariant-loop-place
invariant-loop-place l = IsLeastOf (OverridesFinalBefore l.world l.place) (option_copied l.best)
