use Rattle.jv_frames.specs.Assignable.{IsAssignable}
use Rattle.jv_frames.specs.Steps.Pairs.{AllZipBefore}
use Rattle.jv_frames.proofs.assignability.are_assignable.Given as goal

abbrev pub invariant-loop-place : goal.invariant-loop-place
invariant-loop-place l = AllZipBefore (IsAssignable l.world) l.types l.others l.place
