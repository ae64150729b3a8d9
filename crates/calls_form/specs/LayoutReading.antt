-- Reading the layout of a class file from the front of a list of bytes, part by part: what is kept of the
-- part and what is left, or nothing where the bytes don't begin with such a part.
use Rattle.std.specs.Prelude.{ℕ, zero, suc, ◌-◌, List, [], ◌∷◌, length, codes, Bool, true, false, ◌||◌, ◌==◌, Option, Some, None, is_some, if◌then◌else◌}
use Rattle.std.specs.List.{slice_get}
use Rattle.std.specs.Str.{bytes_eq}
use Rattle.calls_form.specs.declared.outline.Entry.{Entry}
use Rattle.calls_form.specs.declared.outline.Entry.TheVariants as entry
use Rattle.calls_form.specs.declared.outline.RawField.{RawField}
use Rattle.calls_form.specs.declared.outline.RawMethod.{RawMethod}
use Rattle.calls_form.specs.declared.outline.Outline.{Outline}
use Rattle.calls_form.specs.Layout.{other_width}
use Rattle.calls_form.specs.Reading.{◌>>=◌, u1_at, u2_at, u4_at, bytes_at}

-- ---- the constant pool

-- a length of two bytes, and as many bytes
unfoldable pub text_at : List ℕ → Option (List ℕ × List ℕ)
text_at bytes = do
  len ← u2_at bytes
  bytes_at len.1 len.0

-- two numbers of two bytes
unfoldable pub pair_at : List ℕ → Option (ℕ × ℕ × List ℕ)
pair_at bytes = do
  first ← u2_at bytes
  second ← u2_at first.1
  Some (first.0, second.0, second.1)

-- longs and doubles
abbrev pub is_wide_tag : ℕ → Bool
is_wide_tag tag = tag == 5 || tag == 6

-- an item that is not kept, behind its tag: its entry, whether it takes two indices, and what is left
unfoldable pub other_at : ℕ → List ℕ → Option (Entry × Bool × List ℕ)
other_at tag bytes = do
  width ← other_width tag
  content ← bytes_at bytes width
  Some (entry.Unused, is_wide_tag tag, content.1)

-- a text behind its tag
unfoldable pub utf8_at : List ℕ → Option (Entry × Bool × List ℕ)
utf8_at bytes = do
  text ← text_at bytes
  Some (entry.Utf8 text.0, false, text.1)

-- a class behind its tag
unfoldable pub class_at : List ℕ → Option (Entry × Bool × List ℕ)
class_at bytes = do
  name ← u2_at bytes
  Some (entry.Class name.0, false, name.1)

-- a field of a class behind its tag
unfoldable pub fieldref_at : List ℕ → Option (Entry × Bool × List ℕ)
fieldref_at bytes = do
  pair ← pair_at bytes
  Some (entry.Fieldref pair.0 pair.1, false, pair.2)

-- a method of a class behind its tag
unfoldable pub methodref_at : List ℕ → Option (Entry × Bool × List ℕ)
methodref_at bytes = do
  pair ← pair_at bytes
  Some (entry.Methodref pair.0 pair.1, false, pair.2)

-- a name and a descriptor behind their tag
unfoldable pub name_and_type_at : List ℕ → Option (Entry × Bool × List ℕ)
name_and_type_at bytes = do
  pair ← pair_at bytes
  Some (entry.NameAndType pair.0 pair.1, false, pair.2)

-- an item behind its tag, whichever it is
unfoldable pub tagged_at : ℕ → List ℕ → Option (Entry × Bool × List ℕ)
tagged_at tag bytes =
    if tag == 1 then utf8_at bytes else
    (if tag == 7 then class_at bytes else
    (if tag == 9 then fieldref_at bytes else
    (if tag == 10 then methodref_at bytes else
    (if tag == 12 then name_and_type_at bytes else other_at tag bytes))))

-- an item
unfoldable pub item_at : List ℕ → Option (Entry × Bool × List ℕ)
item_at bytes = do
  tag ← u1_at bytes
  tagged_at tag.0 tag.1

-- the entry of the next index, which is unused where the item before it takes two
unfoldable pub slot_at : Bool → List ℕ → Option (Entry × Bool × List ℕ)
slot_at true bytes = Some (entry.Unused, false, bytes)
slot_at false bytes = item_at bytes

-- the entries of as many indices, behind an item that takes this one too or doesn't
unfoldable pub entries_at : ℕ → Bool → List ℕ → Option (List Entry × List ℕ)
entries_at zero wide bytes = if wide then None else Some ([], bytes)
entries_at (suc n) wide bytes = do
  first ← slot_at wide bytes
  others ← entries_at n first.1 first.2
  Some (first.0 ∷ others.0, others.1)

-- the entries by index, with nothing at 0
unfoldable pub indexed_at : ℕ → List ℕ → Option (List Entry × List ℕ)
indexed_at indices bytes = do
  entries ← entries_at indices false bytes
  Some (entry.Unused ∷ entries.0, entries.1)

-- a count, and the entries of the indices below it
unfoldable pub pool_at : List ℕ → Option (List Entry × List ℕ)
pool_at bytes = do
  count ← u2_at bytes
  if count.0 == 0 then None else indexed_at (count.0 - 1) count.1

-- ---- attributes

-- the name's index, the content, and what is left
unfoldable pub attribute_at : List ℕ → Option (ℕ × List ℕ × List ℕ)
attribute_at bytes = do
  name ← u2_at bytes
  len ← u4_at name.1
  content ← bytes_at len.1 len.0
  Some (name.0, content.0, content.1)

-- what is left behind as many attributes
unfoldable pub behind_at : ℕ → List ℕ → Option (List ℕ)
behind_at zero bytes = Some bytes
behind_at (suc n) bytes = do
  first ← attribute_at bytes
  behind_at n first.2

-- a count, and as many attributes
unfoldable pub passed_at : List ℕ → Option (List ℕ)
passed_at bytes = do
  count ← u2_at bytes
  behind_at count.0 count.1

-- the entry is the name of the attribute Code
unfoldable pub is_code : Option Entry → Bool
is_code None = false
is_code (Some (entry.Utf8 text)) = bytes_eq text (codes "Code")
is_code (Some (entry.Class name)) = false
is_code (Some (entry.Fieldref class name_and_type)) = false
is_code (Some (entry.Methodref class name_and_type)) = false
is_code (Some (entry.NameAndType name desc)) = false
is_code (Some entry.Unused) = false

-- the content of the Code that was found, behind one attribute more; a second one is none
unfoldable pub found_at : List Entry → Option (List ℕ) → ℕ → List ℕ → Option (Option (List ℕ))
found_at pool found name content =
    if is_code (slice_get pool name) then (if is_some found then None else Some (Some content)) else Some found

-- the same behind as many attributes, and what is left
unfoldable pub code_at : List Entry → ℕ → Option (List ℕ) → List ℕ → Option (Option (List ℕ) × List ℕ)
code_at pool zero found bytes = Some (found, bytes)
code_at pool (suc n) found bytes = do
  first ← attribute_at bytes
  next ← found_at pool found first.0 first.1
  code_at pool n next first.2

-- a count, and as many attributes, one of which is Code, with its content
unfoldable pub one_code_at : List Entry → List ℕ → Option (List ℕ × List ℕ)
one_code_at pool bytes = do
  count ← u2_at bytes
  found ← code_at pool count.0 None count.1
  content ← found.0
  Some (content, found.1)

-- ---- fields

-- a field, whose attributes are passed over
unfoldable pub field_at : List ℕ → Option (RawField × List ℕ)
field_at bytes = do
  access ← u2_at bytes
  names ← pair_at access.1
  rest ← passed_at names.2
  Some (record { access = record { 0 = access.0 }; name = names.0; desc = names.1 }, rest)

-- as many fields
unfoldable pub fields_at : ℕ → List ℕ → Option (List RawField × List ℕ)
fields_at zero bytes = Some ([], bytes)
fields_at (suc n) bytes = do
  first ← field_at bytes
  others ← fields_at n first.1
  Some (first.0 ∷ others.0, others.1)

-- a count, and as many fields
unfoldable pub counted_fields_at : List ℕ → Option (List RawField × List ℕ)
counted_fields_at bytes = do
  count ← u2_at bytes
  fields_at count.0 count.1

-- ---- methods

-- a method
unfoldable pub method_at : List Entry → List ℕ → Option (RawMethod × List ℕ)
method_at pool bytes = do
  access ← u2_at bytes
  names ← pair_at access.1
  code ← one_code_at pool names.2
  Some (record { access = record { 0 = access.0 }; name = names.0; desc = names.1; code = code.0 }, code.1)

-- as many methods
unfoldable pub methods_at : List Entry → ℕ → List ℕ → Option (List RawMethod × List ℕ)
methods_at pool zero bytes = Some ([], bytes)
methods_at pool (suc n) bytes = do
  first ← method_at pool bytes
  others ← methods_at pool n first.1
  Some (first.0 ∷ others.0, others.1)

-- a count, and as many methods
unfoldable pub counted_methods_at : List Entry → List ℕ → Option (List RawMethod × List ℕ)
counted_methods_at pool bytes = do
  count ← u2_at bytes
  methods_at pool count.0 count.1

-- ---- the file

-- the magic number and the versions, of which the major one is kept
unfoldable pub header_at : List ℕ → Option (ℕ × List ℕ)
header_at bytes = do
  magic ← u4_at bytes
  versions ← (if magic.0 == 0xCAFEBABE then pair_at magic.1 else None)
  Some (versions.1, versions.2)

-- access flags, this class and the superclass, and no interfaces
unfoldable pub names_at : List ℕ → Option (ℕ × ℕ × List ℕ)
names_at bytes = do
  access ← u2_at bytes
  names ← pair_at access.1
  count ← u2_at names.2
  if count.0 == 0 then Some (names.0, names.1, count.1) else None

-- all of the bytes
unfoldable pub outline_at : List ℕ → Option Outline
outline_at bytes = do
  header ← header_at bytes
  pool ← pool_at header.1
  names ← names_at pool.1
  fields ← counted_fields_at names.2
  methods ← counted_methods_at pool.0 fields.1
  rest ← passed_at methods.1
  if length rest == 0 then Some (record { major = header.0; pool = pool.0; this_class = names.0; super_class = names.1; fields = fields.0; methods = methods.0 }) else None
