-- So many links were gone up.
use Rattle.jv_resolve.specs.Steps.Targets.{IsTarget}
use Rattle.jv_resolve.proofs.Going.{IsGoing}
use Rattle.jv_resolve.proofs.depth_first.first_target.Given as goal

abbrev pub invariant-loop-links : goal.invariant-loop-links
invariant-loop-links l = IsGoing l.world (IsTarget l.targets) l.fn.c.number l.links l.class.number
