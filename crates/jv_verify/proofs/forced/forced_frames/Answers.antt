use Rattle.jv_types.specs.Bodies.{at_offset}
use Rattle.av_conditions.proofs.Standing.{stands_at}
use Rattle.jv_verify.specs.Steps.Forcing.{forced_here, IsLeft}
use Rattle.jv_verify.proofs.Forcing.{goes_on, ends}
use Rattle.jv_verify.proofs.forced.forced_frames.Goals as goal

pub left_by-requires-clause-stands : goal.left_by-requires-clause-stands
left_by-requires-clause-stands c =
    stands_at c.args.body.now.insns c.loop-row.row-index c.row-item.result c.args.body.now.rising (rw c.as_slice-row-items.ensures at c.loop-row-test.true) (rw c.as_slice-row-items.ensures at c.row-item.is)

pub loop-row-preserved : goal.loop-row-preserved
loop-row-preserved c =
    let here = forced_here (at_offset c.row-item.result.0 c.args.maps.now) c.loop-row.left in
    let leaves : IsLeft c.args.world.now c.args.method c.args.body.now c.args.maps.now c.row-item.result.0 c.row-item.result.1 here c.in_ok-left.left = rw c.in_ok-here.ensures at c.in_ok-left.ensures in
    let more = goes_on c.args.world.now c.args.method c.args.body.now c.args.maps.now c.args.begun c.loop-row.left c.in_ok-left.left c.loop-row.rows.items c.loop-row.row-index c.row-item.result
    (rw c.as_slice-row-items.ensures at c.loop-row-test.true) (rw c.as_slice-row-items.ensures at c.row-item.is) c.loop-row.invariant leaves in
    rw (c.in_ok-put.ensures, c.in_ok-here.ensures) more

pub returns : goal.returns
returns c =
    ends c.args.world.now c.args.method c.args.body.now c.args.maps.now c.args.begun c.loop-row.left c.loop-row.rows.items c.loop-row.row-index (rw c.as_slice-row-items.ensures at c.loop-row-test.false) c.loop-row.invariant
