-- What is kept of a file, and what the indices of its constant pool name.
use Rattle.std.specs.Prelude.{◌≡◌, ℕ, List, [], ◌∷◌, ◌++◌, Some, codes, if◌then◌else◌}
use Rattle.std.specs.List.{slice_get, AllZip, AllByRecursion}
use Rattle.calls_form.specs.declared.outline.Entry.{Entry}
use Rattle.calls_form.specs.declared.outline.Entry.TheVariants as entry
use Rattle.calls_form.specs.declared.outline.RawField.{RawField}
use Rattle.calls_form.specs.declared.outline.RawMethod.{RawMethod}
use Rattle.calls_form.specs.declared.outline.Outline.{Outline}
use Rattle.calls_form.specs.Layout.{Item, Utf8, Class, Fieldref, Methodref, NameAndType, Other, is_wide, Attribute, Member, File, file_text, IsFile}

-- what is kept of an item
abbrev pub entry_of : Item → Entry
entry_of (Utf8 text) = entry.Utf8 text
entry_of (Class name) = entry.Class name
entry_of (Fieldref class name_and_type) = entry.Fieldref class name_and_type
entry_of (Methodref class name_and_type) = entry.Methodref class name_and_type
entry_of (NameAndType name desc) = entry.NameAndType name desc
entry_of (Other tag content) = entry.Unused

-- the entries by index from 1 on: nothing stands at the second index of a long or double (JVMS 4.4.5)
abbrev pub entries_of : List Item → List Entry
entries_of [] = []
entries_of (item ∷ items) =
    if is_wide item then entry_of item ∷ entry.Unused ∷ entries_of items else entry_of item ∷ entries_of items

-- an index of the pool has this text (JVMS 4.4.7)
abbrev pub IsUtf8At : List Entry → ℕ → List ℕ → Type 0
IsUtf8At pool i text = slice_get pool i ≡ Some (entry.Utf8 text)

-- an index of the pool has the class of this name (JVMS 4.4.1)
abbrev pub IsClassAt : List Entry → ℕ → List ℕ → Type 0
IsClassAt pool i name = (at : ℕ) × (slice_get pool i ≡ Some (entry.Class at)) × IsUtf8At pool at name

-- an index of the pool has the field of this class, name and descriptor (JVMS 4.4.2, 4.4.6)
pub record IsFieldrefAt (pool : List Entry) (i : ℕ) (class name desc : List ℕ) : Type 0 where
  pub class_at : ℕ
  pub pair_at : ℕ
  pub name_at : ℕ
  pub desc_at : ℕ
  pub item : slice_get pool i ≡ Some (entry.Fieldref class_at pair_at)
  pub pair : slice_get pool pair_at ≡ Some (entry.NameAndType name_at desc_at)
  pub class_is : IsClassAt pool class_at class
  pub name_is : IsUtf8At pool name_at name
  pub desc_is : IsUtf8At pool desc_at desc

-- an index of the pool has the method of this class, name and descriptor (JVMS 4.4.2, 4.4.6)
pub record IsMethodrefAt (pool : List Entry) (i : ℕ) (class name desc : List ℕ) : Type 0 where
  pub class_at : ℕ
  pub pair_at : ℕ
  pub name_at : ℕ
  pub desc_at : ℕ
  pub item : slice_get pool i ≡ Some (entry.Methodref class_at pair_at)
  pub pair : slice_get pool pair_at ≡ Some (entry.NameAndType name_at desc_at)
  pub class_is : IsClassAt pool class_at class
  pub name_is : IsUtf8At pool name_at name
  pub desc_is : IsUtf8At pool desc_at desc

-- the attribute is named Code
abbrev pub IsNamedCode : List Entry → Attribute → Type 0
IsNamedCode pool a = IsUtf8At pool a.name (codes "Code")

-- exactly one of the attributes is named Code, and it has this content
pub record HasOneCode (pool : List Entry) (attributes : List Attribute) (content : List ℕ) : Type 0 where
  pub before : List Attribute
  pub after : List Attribute
  pub code : Attribute
  pub parts : attributes ≡ before ++ code ∷ after
  pub named : IsNamedCode pool code
  pub none_before : AllByRecursion (λ a. ¬ IsNamedCode pool a) before
  pub none_after : AllByRecursion (λ a. ¬ IsNamedCode pool a) after
  pub content_is : code.content ≡ content

-- a field as it is kept
pub record IsRawField (m : Member) (raw : RawField) : Type 0 where
  pub access : raw.access.0 ≡ m.access
  pub name : raw.name ≡ m.name
  pub desc : raw.desc ≡ m.desc

-- a method as it is kept
pub record IsRawMethod (pool : List Entry) (m : Member) (raw : RawMethod) : Type 0 where
  pub access : raw.access.0 ≡ m.access
  pub name : raw.name ≡ m.name
  pub desc : raw.desc ≡ m.desc
  pub code : HasOneCode pool m.attributes raw.code

-- a file as it is kept
pub record IsOutlineOf (f : File) (o : Outline) : Type 0 where
  pub major : o.major ≡ f.major
  pub pool : o.pool ≡ entry.Unused ∷ entries_of f.items
  pub this_class : o.this_class ≡ f.this_class
  pub super_class : o.super_class ≡ f.super_class
  pub fields : AllZip IsRawField f.fields o.fields
  pub methods : AllZip (IsRawMethod o.pool) f.methods o.methods

-- these bytes are the text of a file, each of whose methods has one Code, and this is what is kept of it
abbrev pub IsOutline : List ℕ → Outline → Type 0
IsOutline bytes o = (f : File) × IsFile f × (bytes ≡ file_text f) × IsOutlineOf f o
