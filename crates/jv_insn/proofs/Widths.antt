-- How many words the constant at an index takes.
use Rattle.std.proofs.Common.{◌≡◌, ℕ, Bool, true, false, List, Option, Some, None, refl}
use Rattle.std.specs.Prelude.{option_and_then, option_map}
use Rattle.jv_types.specs.declared.instruction.Const.{Const}
use Rattle.jv_types.specs.declared.instruction.Const.TheVariants as consts
use Rattle.jv_pool.specs.declared.item.PoolItem.{PoolItem}
use Rattle.jv_pool.specs.declared.item.PoolItem.TheVariants as items
use Rattle.jv_pool.specs.Lookups.{item_at, class_name_in}
use Rattle.jv_names.proofs.NamedOnce.{given_twice}
use Rattle.jv_insn.specs.Forms.{is_category_2}
use Rattle.jv_insn.specs.Meanings.{NamesConst}

-- the item takes two indices
abbrev is_two_item : PoolItem → Bool
is_two_item (items.Long value) = true
is_two_item (items.Double bits) = true
is_two_item _ = false

-- a class at an index is an item
class_item : (pool : List PoolItem) (item : Option PoolItem) (text : List ℕ) → option_and_then (class_name_in pool) item ≡ Some text → option_map is_two_item item ≡ Some false
class_item pool None text e = absurd cc
class_item pool (Some (items.Class name)) text e = refl
class_item pool (Some _) text e = absurd cc

const_width : (pool : List PoolItem) (index : ℕ) (const : Const) → NamesConst pool index const → option_map is_two_item (item_at pool index) ≡ Some (is_category_2 const)
const_width pool index (consts.Int value) h = rw h refl
const_width pool index (consts.Float bits) h = rw h refl
const_width pool index (consts.Long value) h = rw h refl
const_width pool index (consts.Double bits) h = rw h refl
const_width pool index consts.Text h = rw h.1 refl
const_width pool index (consts.Class type) h = class_item pool (item_at pool index) h.text h.found
const_width pool index consts.Handle h = rw h.2 refl
const_width pool index consts.MethodKind h = rw h.1 refl

-- constants at one index take as many words
pub one_width : (pool : List PoolItem) (index : ℕ) (x y : Const) → NamesConst pool index x → NamesConst pool index y → is_category_2 x ≡ is_category_2 y
one_width pool index x y h k = given_twice (option_map is_two_item (item_at pool index)) (is_category_2 x) (is_category_2 y) (const_width pool index x h) (const_width pool index y k)
