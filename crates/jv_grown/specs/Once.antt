-- The items of a pool that stand there once.
use Rattle.std.specs.Prelude.{◌≡◌, ℕ, false, List, Some}
use Rattle.jv_pool.specs.declared.item.PoolItem.{PoolItem}
use Rattle.jv_pool.specs.Lookups.{item_at}
use Rattle.jv_pool.specs.PoolText.{is_hole}

-- each item stands at one index, apart from the indices that name nothing
abbrev pub AreOnce : List PoolItem → Type 0
AreOnce items = (i j : ℕ) (item : PoolItem) → is_hole item ≡ false → item_at items i ≡ Some item → item_at items j ≡ Some item → i ≡ j
