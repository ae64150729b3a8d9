-- No items have no indices.
use Rattle.std.proofs.Common.{ap, sym, subst, List, length, arith}
use Rattle.jv_pool.specs.declared.item.PoolItem.{PoolItem}
use Rattle.jv_pool.specs.Adding.{HasPlaces}
use Rattle.jv_pool.proofs.AddingLaws.{places_none}
use Rattle.jv_pool.proofs.pool_writer.PoolWriter.new.Goals as goal

pub invariant_of-result : goal.invariant_of-result
invariant_of-result c = (
  omega (arith, ap length c.new.ensures.items),
  subst (λ (l : List PoolItem). HasPlaces l c.new-2.result) (sym c.new.ensures.items) (places_none c.new-2.result c.new-2.ensures.empty),
)
