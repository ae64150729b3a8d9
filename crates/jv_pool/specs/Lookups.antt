-- What an index of a constant pool names. Indices begin at 1 (JVMS 4.1).
use Rattle.std.specs.Prelude.{ℕ, ◌-◌, ◌==◌, ◌&&◌, Bool, true, false, List, Option, Some, None, if◌then◌else◌}
use Rattle.std.specs.List.{slice_get}
use Rattle.std.specs.Option.{option_and_then, option_map_or}
use Rattle.jv_pool.specs.declared.item.PoolItem.{PoolItem}
use Rattle.jv_pool.specs.declared.item.PoolItem.TheVariants.{Utf8, Class, Field, Method, InterfaceMethod, NameAndType}

-- the item of an index, in the pool that has these items from index 1 on
abbrev pub item_at : List PoolItem → ℕ → Option PoolItem
item_at items i = if i == 0 then None else slice_get items (i - 1)

-- an index names an item that passes a test
abbrev pub names : (PoolItem → Bool) → List PoolItem → ℕ → Bool
names test items i = option_map_or test (item_at items i) false

abbrev pub is_utf8 : PoolItem → Bool
is_utf8 (Utf8 bytes) = true
is_utf8 _ = false

abbrev pub is_class : PoolItem → Bool
is_class (Class name) = true
is_class _ = false

abbrev pub is_name_and_type : PoolItem → Bool
is_name_and_type (NameAndType name desc) = true
is_name_and_type _ = false

-- the text at an index (JVMS 4.4.7)
abbrev pub text_in : PoolItem → Option (List ℕ)
text_in (Utf8 bytes) = Some bytes
text_in _ = None

abbrev pub text_at : List PoolItem → ℕ → Option (List ℕ)
text_at items i = option_and_then text_in (item_at items i)

-- the name of the class at an index (JVMS 4.4.1)
abbrev pub class_name_in : List PoolItem → PoolItem → Option (List ℕ)
class_name_in items (Class name) = text_at items name
class_name_in items _ = None

abbrev pub class_name_at : List PoolItem → ℕ → Option (List ℕ)
class_name_at items i = option_and_then (class_name_in items) (item_at items i)

-- the indices of the name and of the descriptor at an index (JVMS 4.4.6), where each names a text
abbrev pub name_and_type_in : List PoolItem → PoolItem → Option (ℕ × ℕ)
name_and_type_in items (NameAndType name desc) =
    if names is_utf8 items name && names is_utf8 items desc then Some (name, desc) else None
name_and_type_in items _ = None

abbrev pub name_and_type_at : List PoolItem → ℕ → Option (ℕ × ℕ)
name_and_type_at items i = option_and_then (name_and_type_in items) (item_at items i)

-- the indices of the class and of the name and descriptor of the member at an index (JVMS 4.4.2), where
-- they name such items
abbrev pub pair_in : List PoolItem → ℕ → ℕ → Option (ℕ × ℕ)
pair_in items class pair =
    if names is_class items class && names is_name_and_type items pair then Some (class, pair) else None

abbrev pub member_in : List PoolItem → PoolItem → Option (ℕ × ℕ)
member_in items (Field class pair) = pair_in items class pair
member_in items (Method class pair) = pair_in items class pair
member_in items (InterfaceMethod class pair) = pair_in items class pair
member_in items _ = None

abbrev pub member_at : List PoolItem → ℕ → Option (ℕ × ℕ)
member_at items i = option_and_then (member_in items) (item_at items i)
