use Rattle.std.proofs.Common.{length, refl}
use Rattle.std.proofs.lemmas.Option.{slice_get_read}
use Rattle.av_given.specs.Steps.Parts.{FrameNames}
use Rattle.av_given.proofs.Adding.{loop_all, loop_more, loop_start}
use Rattle.av_given.proofs.maps.add_frames.Goals as goal

pub loop-frame-init : goal.loop-frame-init
loop-frame-init c = loop_start (λ place. FrameNames c.args.pool.now) c.args.frames.now c.args.texts.items

pub loop-frame-preserved : goal.loop-frame-preserved
loop-frame-preserved c =
    loop_more (λ place. FrameNames c.args.pool.now) c.args.frames.now c.loop-frame.frame-index c.frame-item.result c.args.texts.items c.loop-frame.named.items c.in_ok-next.next.items
    (slice_get_read c.args.frames.now (length c.args.frames.now) c.loop-frame.frame-index c.frame-item.result refl c.loop-frame-test.true c.frame-item.is) c.loop-frame.invariant c.in_ok-next.ensures

pub returns : goal.returns
returns c = loop_all (λ place. FrameNames c.args.pool.now) c.args.frames.now c.loop-frame.frame-index c.args.texts.items c.loop-frame.named.items c.loop-frame-test.false c.loop-frame.invariant
