-- What was passed is written, and fits.
use Rattle.std.proofs.Common.{◌≡◌, ◌++◌, take}
use Rattle.std.specs.List.{flat_map, AllByRecursion}
use Rattle.jv_attr.specs.FrameText.{frame_text, HasFewTypes}
use Rattle.jv_attr.proofs.write.put_frames.Given as goal

abbrev pub invariant-loop-frame : goal.invariant-loop-frame
invariant-loop-frame l =
    AllByRecursion HasFewTypes (take l.frame-index l.frames) × (l.writer ≡ l.fn.writer ++ flat_map frame_text (take l.frame-index l.frames))
