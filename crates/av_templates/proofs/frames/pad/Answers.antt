use Rattle.std.proofs.Common.{append_assoc}
use Rattle.std.proofs.lemmas.Grind.{replicate_next}
use Rattle.av_templates.proofs.frames.pad.Goals as goal

pub loop-place-preserved : goal.loop-place-preserved
loop-place-preserved c = rw (replicate_next, c.in_ok-push.ensures.items, c.loop-place.invariant) (simp append_assoc)
