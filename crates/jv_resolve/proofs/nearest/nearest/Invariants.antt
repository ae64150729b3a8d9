-- So many links were climbed.
use Rattle.jv_resolve.specs.Steps.Wanted.{IsWanted}
use Rattle.jv_resolve.proofs.Climbing.{IsClimbing}
use Rattle.jv_resolve.proofs.nearest.nearest.Given as goal

abbrev pub invariant-loop-links : goal.invariant-loop-links
invariant-loop-links l = IsClimbing l.world (IsWanted l.world l.name l.desc l.wanted) l.fn.c.number l.links l.class.number
