use Rattle.jv_frames.specs.Steps.Mapping.{GoesOn}
use Rattle.jv_frames.proofs.maps.map_frames.Given as goal

abbrev pub invariant-loop-f : goal.invariant-loop-f
invariant-loop-f l = GoesOn l.pool l.body l.fn.entry.items l.frames l.base l.before.items l.rows.items l.f-index
