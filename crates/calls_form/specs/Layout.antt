-- How a class file is laid out (JVMS 4.1 to 4.7): each structure as a value that has all of it, and the
-- one text of each value. Only files without interfaces have one here.
use Rattle.std.specs.Prelude.{◌≡◌, ℕ, ◌+◌, ◌*◌, ◌^◌, ◌<◌, List, [], ◌∷◌, ◌++◌, length, Bool, false, ◌||◌, ◌==◌, Option, Some, None, if◌then◌else◌}
use Rattle.std.specs.List.{flat_map, AllByRecursion}
use Rattle.std.specs.Int.{w16, w32, to_be_bytes}

-- numbers of two and four bytes, the high byte first
abbrev pub u2 : ℕ → List ℕ
u2 n = to_be_bytes w16 n

abbrev pub u4 : ℕ → List ℕ
u4 n = to_be_bytes w32 n

-- an item of the constant pool (JVMS 4.4)
pub data Item : Type 0 where
  Utf8 : (text : List ℕ) → Item
  Class : (name : ℕ) → Item
  Fieldref : (class : ℕ) → (name_and_type : ℕ) → Item
  Methodref : (class : ℕ) → (name_and_type : ℕ) → Item
  NameAndType : (name : ℕ) → (desc : ℕ) → Item
  Other : (tag : ℕ) → (content : List ℕ) → Item

-- how many bytes follow each of the other tags (JVMS table 4.4-A)
abbrev pub other_width : ℕ → Option ℕ
other_width tag =
    if tag == 3 || tag == 4 then Some 4 else
    (if tag == 5 || tag == 6 then Some 8 else
    (if tag == 8 || tag == 16 then Some 2 else
    (if tag == 11 || tag == 18 then Some 4 else
    (if tag == 15 then Some 3 else None))))

abbrev pub item_text : Item → List ℕ
item_text (Utf8 text) = 1 ∷ u2 (length text) ++ text
item_text (Class name) = 7 ∷ u2 name
item_text (Fieldref class name_and_type) = 9 ∷ u2 class ++ u2 name_and_type
item_text (Methodref class name_and_type) = 10 ∷ u2 class ++ u2 name_and_type
item_text (NameAndType name desc) = 12 ∷ u2 name ++ u2 desc
item_text (Other tag content) = tag ∷ content

-- an item that has a text
abbrev pub IsItem : Item → Type 0
IsItem (Utf8 text) = length text < 2 ^ 16
IsItem (Class name) = name < 2 ^ 16
IsItem (Fieldref class name_and_type) = (class < 2 ^ 16) × (name_and_type < 2 ^ 16)
IsItem (Methodref class name_and_type) = (class < 2 ^ 16) × (name_and_type < 2 ^ 16)
IsItem (NameAndType name desc) = (name < 2 ^ 16) × (desc < 2 ^ 16)
IsItem (Other tag content) = other_width tag ≡ Some (length content)

-- a long or double takes two indices (JVMS 4.4.5), every other item one
abbrev pub is_wide : Item → Bool
is_wide (Utf8 text) = false
is_wide (Class name) = false
is_wide (Fieldref class name_and_type) = false
is_wide (Methodref class name_and_type) = false
is_wide (NameAndType name desc) = false
is_wide (Other tag content) = tag == 5 || tag == 6

abbrev pub index_count : List Item → ℕ
index_count [] = 0
index_count (item ∷ items) = (if is_wide item then 2 else 1) + index_count items

-- an attribute (JVMS 4.7), by the index of its name and its content
pub record Attribute : Type 0 where
  pub name : ℕ
  pub content : List ℕ

abbrev pub attribute_text : Attribute → List ℕ
attribute_text a = u2 a.name ++ u4 (length a.content) ++ a.content

pub record IsAttribute (a : Attribute) : Type 0 where
  pub name : a.name < 2 ^ 16
  pub content : length a.content < 2 ^ 32

-- a count, and as many attributes
abbrev pub attributes_text : List Attribute → List ℕ
attributes_text attributes = u2 (length attributes) ++ flat_map attribute_text attributes

abbrev pub AreAttributes : List Attribute → Type 0
AreAttributes attributes = (length attributes < 2 ^ 16) × AllByRecursion IsAttribute attributes

-- a field or a method (JVMS 4.5, 4.6)
pub record Member : Type 0 where
  pub access : ℕ
  pub name : ℕ
  pub desc : ℕ
  pub attributes : List Attribute

abbrev pub member_text : Member → List ℕ
member_text m = u2 m.access ++ u2 m.name ++ u2 m.desc ++ attributes_text m.attributes

pub record IsMember (m : Member) : Type 0 where
  pub access : m.access < 2 ^ 16
  pub name : m.name < 2 ^ 16
  pub desc : m.desc < 2 ^ 16
  pub attributes : AreAttributes m.attributes

-- a file (JVMS 4.1)
pub record File : Type 0 where
  pub minor : ℕ
  pub major : ℕ
  pub items : List Item
  pub access : ℕ
  pub this_class : ℕ
  pub super_class : ℕ
  pub fields : List Member
  pub methods : List Member
  pub attributes : List Attribute

-- magic, versions, the pool, the class itself, no interfaces, the fields, the methods, the attributes, and no byte more
abbrev pub file_text : File → List ℕ
file_text f = 0xCA ∷ 0xFE ∷ 0xBA ∷ 0xBE ∷ u2 f.minor ++ u2 f.major
    ++ u2 (1 + index_count f.items) ++ flat_map item_text f.items
    ++ u2 f.access ++ u2 f.this_class ++ u2 f.super_class ++ u2 0
    ++ u2 (length f.fields) ++ flat_map member_text f.fields
    ++ u2 (length f.methods) ++ flat_map member_text f.methods ++ attributes_text f.attributes

pub record IsFile (f : File) : Type 0 where
  pub minor : f.minor < 2 ^ 16
  pub major : f.major < 2 ^ 16
  pub count : 1 + index_count f.items < 2 ^ 16
  pub items : AllByRecursion IsItem f.items
  pub access : f.access < 2 ^ 16
  pub this_class : f.this_class < 2 ^ 16
  pub super_class : f.super_class < 2 ^ 16
  pub field_count : length f.fields < 2 ^ 16
  pub fields : AllByRecursion IsMember f.fields
  pub method_count : length f.methods < 2 ^ 16
  pub methods : AllByRecursion IsMember f.methods
  pub attributes : AreAttributes f.attributes

-- the content of an attribute Code (JVMS 4.7.3); each of the handlers takes eight bytes
pub record Code : Type 0 where
  pub max_stack : ℕ
  pub max_locals : ℕ
  pub bytes : List ℕ
  pub handler_count : ℕ
  pub handlers : List ℕ
  pub attributes : List Attribute

abbrev pub code_text : Code → List ℕ
code_text c = u2 c.max_stack ++ u2 c.max_locals ++ u4 (length c.bytes) ++ c.bytes
    ++ u2 c.handler_count ++ c.handlers ++ attributes_text c.attributes

pub record IsCode (c : Code) : Type 0 where
  pub max_stack : c.max_stack < 2 ^ 16
  pub max_locals : c.max_locals < 2 ^ 16
  pub not_empty : 0 < length c.bytes
  pub short : length c.bytes < 2 ^ 16
  pub handler_count : c.handler_count < 2 ^ 16
  pub handlers : length c.handlers ≡ 8 * c.handler_count
  pub attributes : AreAttributes c.attributes
