-- An index of the pool that names a text.
use Rattle.std.specs.Prelude.{◌≡◌, ℕ, List, Some}
use Rattle.jv_pool.specs.declared.item.PoolItem.{PoolItem}
use Rattle.jv_pool.specs.Lookups.{text_at}

-- the index names a text
pub record NamesText (items : List PoolItem) (index : ℕ) : Type 0 where
  pub text : List ℕ
  pub found : text_at items index ≡ Some text
