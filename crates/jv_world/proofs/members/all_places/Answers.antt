use Rattle.std.proofs.Common.{rules}
use Rattle.jv_world.proofs.OrderedPlaces.{range_more}
use Rattle.jv_world.proofs.members.all_places.Goals as goal

pub loop-place-preserved : goal.loop-place-preserved
loop-place-preserved c = rw (c.in_ok-push.ensures.items, range_more c.loop-place.place, ← c.loop-place.invariant) (search rules)
