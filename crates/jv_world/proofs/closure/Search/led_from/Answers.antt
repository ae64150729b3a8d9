use Rattle.jv_world.proofs.Searching.{IsMarking-permutation, AreLed-sorted}
use Rattle.jv_world.proofs.closure.Search.led_from.Goals as goal

pub unmark-requires : goal.unmark-requires
unmark-requires c =
    rw (c.deref_mut.ensures.value, c.as_slice-2.ensures.value)
    (IsMarking-permutation _ _ _ c.sort_unstable.ensures.permutation c.in_ok-find.ensures.marking)

pub returns-clause-led : goal.returns-clause-led
returns-clause-led c =
    rw (c.in_ok-row.ensures.items, c.as_slice.ensures.value)
    (AreLed-sorted c.args.links.now c.args.class.number _ _ _ c.in_ok-find.ensures c.sort_unstable.ensures.permutation c.sort_unstable.ensures.sorted)
