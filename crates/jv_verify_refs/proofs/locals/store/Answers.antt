use Rattle.jv_verify_refs.proofs.locals.store.Goals as goal

pub store_above-requires : goal.store_above-requires
store_above-requires c = rw c.as_slice.ensures at c.in-Ok.ensures.typed
