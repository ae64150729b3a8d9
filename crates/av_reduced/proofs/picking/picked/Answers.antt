use Rattle.av_reduced.proofs.Picked.{begins, ends, goes_on}
use Rattle.av_reduced.proofs.picking.picked.Goals as goal

pub loop-place-init : goal.loop-place-init
loop-place-init g c = begins c.args.all.now c.args.places.now c.requires c.new-picked.result.items c.new-picked.ensures.items

pub loop-place-preserved : goal.loop-place-preserved
loop-place-preserved g c =
    goes_on c.args.all.now c.args.places.now c.requires c.loop-place.place-index c.from.result c.loop-place.picked.items c.push_at.new.picked.items
    c.loop-place-test.true c.from.ensures c.loop-place.invariant c.in_ok-push_at.ensures

pub returns : goal.returns
returns g c = ends c.args.all.now c.args.places.now c.requires c.loop-place.place-index c.loop-place.picked.items c.loop-place-test.false c.loop-place.invariant
