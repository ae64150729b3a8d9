-- A constant pool to which items are added.
use Rattle.std.specs.Prelude.{◌≡◌, ℕ, suc, Bool, List, [], ◌∷◌, Option, Some, None, option_map, not, ◌&&◌, if◌then◌else◌}
use Rattle.std.specs.declared.cmp.Ordering.{Ordering}
use Rattle.std.specs.Ordering.{is_eq}
use Rattle.std.specs.BTreeMap.{BTreeMap, get}
use Rattle.jv_pool.specs.declared.item.PoolItem.{PoolItem}
use Rattle.jv_pool.specs.declared.item.PoolItem.TheVariants.{Hole}
use Rattle.jv_pool.specs.contracts.item.PoolItemOrd.TheImpl as item_ord
use Rattle.jv_pool.specs.Lookups.{item_at}
use Rattle.jv_pool.specs.PoolText.{is_wide, is_hole}

-- what an item adds: itself, and a hole where it takes two indices
abbrev pub slots_of : PoolItem → List PoolItem
slots_of item = if is_wide item then item ∷ Hole ∷ [] else item ∷ []

-- the item stands at some index
abbrev pub HasItem : List PoolItem → PoolItem → Type 0
HasItem items item = (i : ℕ) × (item_at items i ≡ Some item)

-- the order of items
abbrev pub item_cmp : PoolItem → PoolItem → Ordering
item_cmp = (item_ord.ghosts).cmp

-- two items are one, which isn't a hole
abbrev pub is_same : PoolItem → PoolItem → Bool
is_same item other = not (is_hole item) && is_eq (item_cmp item other)

-- the first index of an item
unfoldable pub place_of : List PoolItem → PoolItem → Option ℕ
place_of [] item = None
place_of (other ∷ others) item = if is_same item other then Some 1 else option_map suc (place_of others item)

-- a map has the index of each item
abbrev pub HasPlaces : List PoolItem → BTreeMap PoolItem ℕ → Type 0
HasPlaces items places = (item : PoolItem) → get item_cmp places item ≡ place_of items item
