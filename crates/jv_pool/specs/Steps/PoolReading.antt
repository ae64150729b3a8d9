-- Reading a constant pool from the front of a list of bytes, part by part.
use Rattle.std.specs.Prelude.{ℕ, zero, suc, ◌+◌, ◌-◌, ◌*◌, ◌^◌, nat_le, nat_lt, List, [], ◌∷◌, Bool, true, false, ◌&&◌, ◌||◌, ◌==◌, nat_eq, Option, Some, None, if◌then◌else◌}
use Rattle.std.specs.Int.{w32, w64, cast_signed}
use Rattle.std.specs.List.{list_all}
use Rattle.std.specs.Ordering.{nat_cmp}
use Rattle.std.specs.Cmp.Lexicographic.{pointwise}
use Rattle.jv_table.specs.Rows.{row_of}
use Rattle.jv_table.specs.ClassRows.{pool_tag_rows}
use Rattle.jv_table.specs.declared.tags.TheConstants.{UTF8, INTEGER, FLOAT, LONG, DOUBLE, CLASS, STRING, FIELDREF, METHODREF, INTERFACE_METHODREF, NAME_AND_TYPE, METHOD_HANDLE, METHOD_TYPE, INVOKE_DYNAMIC}
use Rattle.jv_pool.specs.declared.item.PoolItem.{PoolItem}
use Rattle.jv_pool.specs.declared.item.PoolItem.TheVariants as items
use Rattle.jv_pool.specs.declared.fields.Fields.{Fields}
use Rattle.jv_pool.specs.declared.fields.Fields.TheVariants.{Index, Word, Words, Pair, Handle}
use Rattle.jv_pool.specs.PoolText.{is_linked}
use Rattle.jv_read.specs.Reading.{◌>>=◌, u1_at, u2_at, u4_at, bytes_at}

-- ---- modified UTF-8

-- a byte that spells a unit alone
abbrev pub is_one : ℕ → Bool
is_one a = nat_le 1 a && nat_lt a 128

-- a byte that goes on with a unit
abbrev pub goes_on : ℕ → Bool
goes_on b = nat_le 128 b && nat_lt b 192

-- two bytes that spell a unit of 0, or of 128 to 2047
abbrev pub is_two : ℕ → ℕ → Bool
is_two a b = goes_on b && ((a == 192 && b == 128) || (nat_le 194 a && nat_lt a 224))

-- three bytes that spell a unit of 2048 or more
abbrev pub is_three : ℕ → ℕ → ℕ → Bool
is_three a b c = (goes_on b && goes_on c) && ((a == 224 && nat_le 160 b) || (nat_le 225 a && nat_lt a 240))

-- how many bytes the first unit has, or 0 where the bytes begin with none
abbrev pub third_len : ℕ → ℕ → List ℕ → ℕ
third_len a b [] = 0
third_len a b (c ∷ rest) = if is_three a b c then 3 else 0

abbrev pub second_len : ℕ → List ℕ → ℕ
second_len a [] = 0
second_len a (b ∷ rest) = if is_two a b then 2 else third_len a b rest

unfoldable pub unit_len : List ℕ → ℕ
unit_len [] = 0
unit_len (a ∷ rest) = if is_one a then 1 else second_len a rest

-- the bytes are units one after the other
unfoldable pub is_spelled : List ℕ → Bool
is_spelled [] = true
is_spelled (a ∷ []) = is_one a
is_spelled (a ∷ b ∷ []) = if is_one a then is_one b else is_two a b
is_spelled (a ∷ b ∷ c ∷ more) =
    if is_one a then is_spelled (b ∷ c ∷ more) else
    (if is_two a b then is_spelled (c ∷ more) else is_three a b c && is_spelled more)

-- ---- an item

-- numbers of these widths
unfoldable pub index_at : List ℕ → Option (Fields × List ℕ)
index_at bytes = do
  index ← u2_at bytes
  Some (Index index.0, index.1)

unfoldable pub word_at : List ℕ → Option (Fields × List ℕ)
word_at bytes = do
  word ← u4_at bytes
  Some (Word word.0, word.1)

unfoldable pub words_at : List ℕ → Option (Fields × List ℕ)
words_at bytes = do
  high ← u4_at bytes
  low ← u4_at high.1
  Some (Words high.0 low.0, low.1)

unfoldable pub pair_at : List ℕ → Option (Fields × List ℕ)
pair_at bytes = do
  first ← u2_at bytes
  second ← u2_at first.1
  Some (Pair first.0 second.0, second.1)

unfoldable pub handle_at : List ℕ → Option (Fields × List ℕ)
handle_at bytes = do
  kind ← u1_at bytes
  member ← u2_at kind.1
  Some (Handle kind.0 member.0, member.1)

unfoldable pub fields_at : List ℕ → List ℕ → Option (Fields × List ℕ)
fields_at parts bytes =
    if pointwise nat_eq parts (2 ∷ []) then index_at bytes else
    (if pointwise nat_eq parts (4 ∷ []) then word_at bytes else
    (if pointwise nat_eq parts (4 ∷ 4 ∷ []) then words_at bytes else
    (if pointwise nat_eq parts (2 ∷ 2 ∷ []) then pair_at bytes else
    (if pointwise nat_eq parts (1 ∷ 2 ∷ []) then handle_at bytes else None))))

-- the item of a tag with these numbers, but for a text
unfoldable pub item_of : ℕ → Fields → Option PoolItem
item_of tag (Index n) =
    if tag == CLASS then Some (items.Class n) else
    (if tag == STRING then Some (items.Text n) else
    (if tag == METHOD_TYPE then Some (items.MethodType n) else None))
item_of tag (Word n) =
    if tag == INTEGER then Some (items.Integer (cast_signed w32 n)) else
    (if tag == FLOAT then Some (items.Float n) else None)
item_of tag (Words high low) =
    if tag == LONG then Some (items.Long (cast_signed w64 (high * 2 ^ 32 + low))) else
    (if tag == DOUBLE then Some (items.Double (high * 2 ^ 32 + low)) else None)
item_of tag (Pair a b) =
    if tag == FIELDREF then Some (items.Field a b) else
    (if tag == METHODREF then Some (items.Method a b) else
    (if tag == INTERFACE_METHODREF then Some (items.InterfaceMethod a b) else
    (if tag == NAME_AND_TYPE then Some (items.NameAndType a b) else
    (if tag == INVOKE_DYNAMIC then Some (items.InvokeDynamic a b) else None))))
item_of tag (Handle kind member) =
    if tag == METHOD_HANDLE then Some (items.MethodHandle kind member) else None

-- a text of as many bytes
unfoldable pub spelled_at : ℕ → List ℕ → Option (PoolItem × List ℕ)
spelled_at len bytes = do
  text ← bytes_at len bytes
  if is_spelled text.0 then Some (items.Utf8 text.0, text.1) else None

-- an item behind its tag and its numbers
unfoldable pub kept_at : ℕ → Fields → List ℕ → Option (PoolItem × List ℕ)
kept_at tag fields bytes = do
  item ← item_of tag fields
  Some (item, bytes)

unfoldable pub content_at : ℕ → Fields → List ℕ → Option (PoolItem × List ℕ)
content_at tag (Index n) bytes = if tag == UTF8 then spelled_at n bytes else kept_at tag (Index n) bytes
content_at tag (Word n) bytes = kept_at tag (Word n) bytes
content_at tag (Words high low) bytes = kept_at tag (Words high low) bytes
content_at tag (Pair a b) bytes = kept_at tag (Pair a b) bytes
content_at tag (Handle kind member) bytes = kept_at tag (Handle kind member) bytes

-- an item, and whether it takes two indices
unfoldable pub next_item_at : List ℕ → Option ((PoolItem × Bool) × List ℕ)
next_item_at bytes = do
  tag ← u1_at bytes
  row ← row_of nat_cmp tag.0 pool_tag_rows
  fields ← fields_at row.parts tag.1
  item ← content_at tag.0 fields.0 fields.1
  Some ((item.0, row.slots == 2), item.1)

-- the item of the next index, which is a hole where the item before it takes two
unfoldable pub slot_at : Bool → List ℕ → Option ((PoolItem × Bool) × List ℕ)
slot_at true bytes = Some ((items.Hole, false), bytes)
slot_at false bytes = next_item_at bytes

-- the items of as many indices, behind an item that takes this one too or doesn't
unfoldable pub items_at : ℕ → Bool → List ℕ → Option (List PoolItem × List ℕ)
items_at zero wide bytes = if wide then None else Some ([], bytes)
items_at (suc n) wide bytes = do
  first ← slot_at wide bytes
  others ← items_at n first.0.1 first.1
  Some (first.0.0 ∷ others.0, others.1)

-- a count, and the items of the indices below it, which name one another
unfoldable pub linked_at : ℕ → List ℕ → Option (List PoolItem × List ℕ)
linked_at indices bytes = do
  items ← items_at indices false bytes
  if list_all (is_linked items.0) items.0 then Some items else None

unfoldable pub pool_at : List ℕ → Option (List PoolItem × List ℕ)
pool_at bytes = do
  count ← u2_at bytes
  if count.0 == 0 then None else linked_at (count.0 - 1) count.1
