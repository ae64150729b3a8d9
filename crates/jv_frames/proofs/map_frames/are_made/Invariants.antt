use Rattle.std.proofs.Common.{take, All}
use Rattle.jv_frames.specs.Maps.{IsMade}
use Rattle.jv_frames.proofs.map_frames.are_made.Given as goal

abbrev pub invariant-loop-of : goal.invariant-loop-of
invariant-loop-of l = All (IsMade l.body.insns) (take l.of-index l.types)
