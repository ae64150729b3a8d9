use Rattle.std.proofs.Common.{rules, is_lt}
use Rattle.std.proofs.lemmas.Fn.{always_returns_same}
use Rattle.jv_world.specs.Steps.Ordered.{field_key, field_key_cmp, place_cmp}
use Rattle.jv_world.proofs.MemberKeys.{field_keys_total}
use Rattle.jv_world.proofs.OrderedPlaces.{AreOrdered-sorted, places_rank}
use Rattle.jv_world.proofs.members.places_of_fields.Goals as goal

pub returns : goal.returns
returns c =
    let fields = c.args.fields.now in
    AreOrdered-sorted field_key_cmp field_key fields c.in_ok-places.places.items _ c.in_ok-places.ensures c.sort_unstable_by.ensures.permutation
    (c.sort_unstable_by.ensures.sorted (λ a b. is_lt (place_cmp field_key_cmp field_key fields a b)) (places_rank field_keys_total field_key fields) (always_returns_same _ _ _ (λ a r f k. search rules)))
