-- The text of a constant pool (JVMS 4.1, 4.4): a count that is one more than the number of indices, and
-- the items one after the other.
use Rattle.std.specs.Prelude.{◌≡◌, ◌<◌, ℕ, ◌+◌, ◌/◌, ◌%◌, ◌^◌, Bool, true, false, ◌==◌, ◌&&◌, ◌||◌, nat_lt, IsTrue, if◌then◌else◌, List, [], ◌∷◌, ◌++◌, length, FitsSigned}
use Rattle.std.specs.Int.{w32, w64, cast_unsigned}
use Rattle.std.specs.List.{flat_map, AllByRecursion}
use Rattle.jv_bytes.specs.Numbers.{number_text}
use Rattle.jv_bytes.specs.Utf8.{IsText}
use Rattle.jv_table.specs.declared.tags.TheConstants.{UTF8, INTEGER, FLOAT, LONG, DOUBLE, CLASS, STRING, FIELDREF, METHODREF, INTERFACE_METHODREF, NAME_AND_TYPE, METHOD_HANDLE, METHOD_TYPE, INVOKE_DYNAMIC}
use Rattle.jv_pool.specs.declared.item.PoolItem.{PoolItem}
use Rattle.jv_pool.specs.declared.item.PoolItem.TheVariants.{Utf8, Integer, Float, Long, Double, Class, Text, Field, Method, InterfaceMethod, NameAndType, MethodHandle, MethodType, InvokeDynamic, Hole}
use Rattle.jv_pool.specs.Lookups.{names, is_utf8, is_class, is_name_and_type}

-- numbers of one, two, four and eight bytes, the high byte first; that of eight is two of four
abbrev pub u1 : ℕ → List ℕ
u1 n = number_text 1 n

abbrev pub u2 : ℕ → List ℕ
u2 n = number_text 2 n

abbrev pub u4 : ℕ → List ℕ
u4 n = number_text 4 n

abbrev pub u8 : ℕ → List ℕ
u8 n = number_text 4 (n / 2 ^ 32) ++ number_text 4 (n % 2 ^ 32)

-- the text of an item: its tag (JVMS table 4.4-A) and its content. The second index of a long or double
-- has no text.
abbrev pub item_text : PoolItem → List ℕ
item_text (Utf8 bytes) = UTF8 ∷ u2 (length bytes) ++ bytes
item_text (Integer n) = INTEGER ∷ u4 (cast_unsigned w32 n)
item_text (Float bits) = FLOAT ∷ u4 bits
item_text (Long n) = LONG ∷ u8 (cast_unsigned w64 n)
item_text (Double bits) = DOUBLE ∷ u8 bits
item_text (Class name) = CLASS ∷ u2 name
item_text (Text text) = STRING ∷ u2 text
item_text (Field class pair) = FIELDREF ∷ u2 class ++ u2 pair
item_text (Method class pair) = METHODREF ∷ u2 class ++ u2 pair
item_text (InterfaceMethod class pair) = INTERFACE_METHODREF ∷ u2 class ++ u2 pair
item_text (NameAndType name desc) = NAME_AND_TYPE ∷ u2 name ++ u2 desc
item_text (MethodHandle kind member) = METHOD_HANDLE ∷ kind ∷ u2 member
item_text (MethodType desc) = METHOD_TYPE ∷ u2 desc
item_text (InvokeDynamic bootstrap pair) = INVOKE_DYNAMIC ∷ u2 bootstrap ++ u2 pair
item_text Hole = []

abbrev pub pool_text : List PoolItem → List ℕ
pool_text items = u2 (1 + length items) ++ flat_map item_text items

-- an item's numbers fit the bytes that they have, and its text is modified UTF-8 (JVMS 4.4.7)
abbrev pub IsItem : PoolItem → Type 0
IsItem (Utf8 bytes) = (units : List ℕ) × IsText bytes units
IsItem (Integer n) = FitsSigned w32 n
IsItem (Float bits) = bits < 2 ^ 32
IsItem (Long n) = FitsSigned w64 n
IsItem (Double bits) = bits < 2 ^ 64
IsItem (Class name) = name < 2 ^ 16
IsItem (Text text) = text < 2 ^ 16
IsItem (Field class pair) = (class < 2 ^ 16) × (pair < 2 ^ 16)
IsItem (Method class pair) = (class < 2 ^ 16) × (pair < 2 ^ 16)
IsItem (InterfaceMethod class pair) = (class < 2 ^ 16) × (pair < 2 ^ 16)
IsItem (NameAndType name desc) = (name < 2 ^ 16) × (desc < 2 ^ 16)
IsItem (MethodHandle kind member) = member < 2 ^ 16
IsItem (MethodType desc) = desc < 2 ^ 16
IsItem (InvokeDynamic bootstrap pair) = (bootstrap < 2 ^ 16) × (pair < 2 ^ 16)
IsItem Hole = Unit {0}

-- longs and doubles take two indices (JVMS 4.4.5)
abbrev pub is_wide : PoolItem → Bool
is_wide (Long n) = true
is_wide (Double bits) = true
is_wide _ = false

abbrev pub is_hole : PoolItem → Bool
is_hole Hole = true
is_hole _ = false

-- behind an item that takes the next index too, or doesn't: each long and double, and nothing else, is
-- followed by an index that names nothing
abbrev pub HasHoles : Bool → List PoolItem → Type 0
HasHoles wide [] = wide ≡ false
HasHoles wide (item ∷ items) = (is_hole item ≡ wide) × HasHoles (is_wide item) items

abbrev pub is_field : PoolItem → Bool
is_field (Field class pair) = true
is_field _ = false

abbrev pub is_method : PoolItem → Bool
is_method (Method class pair) = true
is_method _ = false

abbrev pub is_interface_method : PoolItem → Bool
is_interface_method (InterfaceMethod class pair) = true
is_interface_method _ = false

-- A member that a method handle of a kind may name (JVMS table 5.4.3.5-A): a field for 1 to 4, a method of a
-- class for 5 and 8, a method of a class or of an interface for 6 and 7, and a method of an interface for 9.
-- Another kind may name none.
abbrev pub is_handled : ℕ → PoolItem → Bool
is_handled kind item =
    if kind == 0 || nat_lt 9 kind then false else
    (if nat_lt kind 5 then is_field item else
    (if kind == 5 || kind == 8 then is_method item else
    (if kind == 9 then is_interface_method item else is_method item || is_interface_method item)))

-- each index in an item names an item of the right tag
abbrev pub is_linked : List PoolItem → PoolItem → Bool
is_linked items (Class name) = names is_utf8 items name
is_linked items (Text text) = names is_utf8 items text
is_linked items (Field class pair) = names is_class items class && names is_name_and_type items pair
is_linked items (Method class pair) = names is_class items class && names is_name_and_type items pair
is_linked items (InterfaceMethod class pair) = names is_class items class && names is_name_and_type items pair
is_linked items (NameAndType name desc) = names is_utf8 items name && names is_utf8 items desc
is_linked items (MethodHandle kind member) = names (is_handled kind) items member
is_linked items (MethodType desc) = names is_utf8 items desc
is_linked items (InvokeDynamic bootstrap pair) = names is_name_and_type items pair
is_linked items _ = true

-- a pool, apart from how many items it may have and how long its texts may be
pub record IsPool (items : List PoolItem) : Type 0 where
  pub each : AllByRecursion IsItem items
  pub holes : HasHoles false items
  pub linked : AllByRecursion (λ item. IsTrue (is_linked items item)) items

-- a text has at most 65535 bytes
abbrev pub IsShort : PoolItem → Type 0
IsShort (Utf8 bytes) = length bytes < 2 ^ 16
IsShort _ = Unit {0}

-- the bytes are the text of the pool that has these items from index 1 on
pub record IsPoolText (bytes : List ℕ) (items : List PoolItem) : Type 0 where
  pub is_pool : IsPool items
  pub count : 1 + length items < 2 ^ 16
  pub short : AllByRecursion IsShort items
  pub spelled : bytes ≡ pool_text items

-- what is left of the bytes behind the text of a pool
pub record BeginsWithPool (bytes : List ℕ) (items : List PoolItem) (rest : List ℕ) : Type 0 where
  pub front : List ℕ
  pub is_text : IsPoolText front items
  pub parts : bytes ≡ front ++ rest
