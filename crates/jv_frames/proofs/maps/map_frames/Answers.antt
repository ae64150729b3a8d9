use Rattle.std.proofs.Common.{◌≡◌, ◌+◌, arith}
use Rattle.jv_frames.specs.Maps.{frame_delta}
use Rattle.jv_frames.proofs.Mapping.{goes_on, ends}
use Rattle.jv_frames.proofs.maps.map_frames.Goals as goal

pub loop-f-preserved : goal.loop-f-preserved
loop-f-preserved c =
    let pc = c.loop-f.base + c.from.result in
    let at : pc ≡ c.loop-f.base + frame_delta c.f-item.result = omega (arith, c.from.ensures, c.frame_delta.ensures) in
    let framed = rw (c.as_slice.ensures.value, c.as_slice-in-Ok.ensures.value) at c.in_ok-frame-in-Ok.ensures in
    rw c.in_ok-push-in-Ok.ensures.items (goes_on c.args.pool.now c.args.body.now c.args.entry.items c.args.frames.now c.loop-f.base c.loop-f.before.items c.loop-f.rows.items c.loop-f.f-index
    c.f-item.result c.in-Ok.locals.items c.in-Ok.stack.items pc c.in_ok-frame-in-Ok.frame c.loop-f-test.true c.f-item.is c.loop-f.invariant at (omega (arith, at, c.in-Ok.ensures.within)) c.in-Ok.ensures.found framed)

pub returns-clause-frames : goal.returns-clause-frames
returns-clause-frames c =
    ends c.args.pool.now c.args.body.now c.args.entry.items c.args.frames.now c.loop-f.base c.loop-f.before.items c.loop-f.rows.items c.loop-f.f-index c.loop-f-test.false c.loop-f.invariant
