use Rattle.std.proofs.Common.{rules, is_lt}
use Rattle.std.proofs.lemmas.Fn.{always_returns_same}
use Rattle.jv_world.specs.Steps.Ordered.{method_key, method_key_cmp, place_cmp}
use Rattle.jv_world.proofs.MemberKeys.{method_keys_total}
use Rattle.jv_world.proofs.OrderedPlaces.{AreOrdered-sorted, places_rank}
use Rattle.jv_world.proofs.members.places_of_methods.Goals as goal

pub returns : goal.returns
returns c =
    let methods = c.args.methods.now in
    AreOrdered-sorted method_key_cmp method_key methods c.in_ok-places.places.items _ c.in_ok-places.ensures c.sort_unstable_by.ensures.permutation
    (c.sort_unstable_by.ensures.sorted (λ a b. is_lt (place_cmp method_key_cmp method_key methods a b)) (places_rank method_keys_total method_key methods) (always_returns_same _ _ _ (λ a r f k. search rules)))
