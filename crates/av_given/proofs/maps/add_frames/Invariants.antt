-- The texts of the frames so far.
use Rattle.av_given.specs.Steps.Adding.{Adds, SomeBefore}
use Rattle.av_given.specs.Steps.Parts.{FrameNames}
use Rattle.av_given.proofs.maps.add_frames.Given as goal

abbrev pub invariant-loop-frame : goal.invariant-loop-frame
invariant-loop-frame l = Adds (SomeBefore (λ place. FrameNames l.pool) l.frames l.frame-index) l.fn.texts.items l.named.items
