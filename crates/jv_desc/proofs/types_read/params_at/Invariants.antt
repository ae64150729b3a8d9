use Rattle.std.proofs.Common.{length}
use Rattle.jv_desc.proofs.DescReading.{ParamsSoFar}
use Rattle.jv_desc.proofs.types_read.params_at.Given as goal

abbrev pub invariant-loop-first : goal.invariant-loop-first
invariant-loop-first l = ParamsSoFar l.bytes l.params.items l.left

abbrev pub decreases-loop-first : goal.decreases-loop-first
decreases-loop-first l = length l.left
