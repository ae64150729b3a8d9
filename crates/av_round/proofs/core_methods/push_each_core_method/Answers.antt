use Rattle.std.proofs.Common.{arith}
use Rattle.jv_resolve.proofs.PlacesLemmas.{read_at}
use Rattle.av_named.proofs.Appending.{places_all, places_more, places_none}
use Rattle.av_round.specs.Seeds.{CoreAt}
use Rattle.av_round.proofs.core_methods.push_each_core_method.Goals as goal

pub loop-place-init : goal.loop-place-init
loop-place-init c = places_none (CoreAt c.args.class) c.args.methods.now c.args.out.now.items

pub loop-place-preserved : goal.loop-place-preserved
loop-place-preserved c =
    places_more (CoreAt c.args.class) c.args.methods.now c.loop-place.place c.index-methods-place.result c.args.out.now.items c.loop-place.out.items c.push_core_method.new.out.items
    (read_at c.args.methods.now c.loop-place.place c.index-methods-place.result (omega arith) c.index-methods-place.is) c.loop-place.invariant c.in_ok-push_core_method.ensures

pub returns : goal.returns
returns c = places_all (CoreAt c.args.class) c.args.methods.now c.loop-place.place c.args.out.now.items c.loop-place.out.items (omega arith) c.loop-place.invariant
