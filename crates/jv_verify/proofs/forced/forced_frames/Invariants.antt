use Rattle.jv_verify.specs.Steps.Forcing.{ForcesOn}
use Rattle.jv_verify.proofs.forced.forced_frames.Given as goal

abbrev pub invariant-loop-row : goal.invariant-loop-row
invariant-loop-row l = ForcesOn l.world l.fn.method l.body l.maps l.fn.begun l.left l.rows.items l.row-index
