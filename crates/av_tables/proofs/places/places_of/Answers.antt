use Rattle.av_tables.proofs.Placing.{all_placed, none_placed}
use Rattle.av_tables.proofs.places.places_of.Goals as goal

pub loop-at-init : goal.loop-at-init
loop-at-init c = none_placed c.args.names.now c.args.files.now c.in_ok-places.places.items c.in_ok-places.ensures.count c.in_ok-places.ensures.none

pub returns : goal.returns
returns c = all_placed c.args.names.now c.args.files.now c.loop-at.at c.loop-at.places.items c.loop-at-test.false c.loop-at.invariant
