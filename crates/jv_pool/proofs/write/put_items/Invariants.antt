-- The items so far are short, and written.
use Rattle.std.proofs.Common.{◌≡◌, ◌++◌, take}
use Rattle.std.specs.List.{flat_map, AllByRecursion}
use Rattle.jv_pool.specs.PoolText.{item_text, IsShort}
use Rattle.jv_pool.proofs.write.put_items.Given as goal

abbrev pub invariant-loop-item : goal.invariant-loop-item
invariant-loop-item l =
    AllByRecursion IsShort (take l.item-index l.items) × (l.writer ≡ l.fn.writer ++ flat_map item_text (take l.item-index l.items))
