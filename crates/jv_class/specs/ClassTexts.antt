-- The text of a class file (JVMS 4.1): what a class value must be, and the one string of bytes that it
-- stands for.
use Rattle.std.specs.Prelude.{◌≡◌, ◌<◌, ◌+◌, ◌^◌, ◌⊎◌, ℕ, Bool, true, false, not, ◌||◌, ◌&&◌, ◌==◌, if◌then◌else◌, List, ◌++◌, length, Some, count_by, bit_and}
use Rattle.std.specs.List.{slice_get, flat_map, AllByRecursion}
use Rattle.jv_pool.specs.declared.item.PoolItem.{PoolItem}
use Rattle.jv_pool.specs.Lookups.{text_at}
use Rattle.jv_pool.specs.PoolText.{u2, u4, IsPool, IsShort as IsShortItem, pool_text}
use Rattle.jv_attr.specs.declared.attr.Attr.{Attr}
use Rattle.jv_attr.specs.declared.attr.AttrBody.{AttrBody}
use Rattle.jv_attr.specs.declared.attr.AttrBody.TheVariants.{Code, Maps, Raw}
use Rattle.jv_attr.specs.declared.attr.CodeAttr.{CodeAttr}
use Rattle.jv_attr.specs.declared.owner.Owner as owners
use Rattle.jv_attr.specs.declared.owner.Owner.TheVariants as owner
use Rattle.jv_attr.specs.AttrText.{IsAttr, HasFew, IsShort, attr_text}
use Rattle.jv_names.specs.Spellings.{IsFieldName, IsMethodName, IsFieldDescriptor, IsMethodDescriptor}
use Rattle.jv_names.specs.PoolNames.{HasText, HasClassName, IsNamedPool}
use Rattle.jv_class.specs.declared.class_file.Member.{Member}
use Rattle.jv_class.specs.declared.class_file.ClassFile.{ClassFile}

-- ---- the bytes

-- a number that two bytes hold
abbrev pub IsU2 : ℕ → Type 0
IsU2 number = number < 2 ^ 16

-- a count of two bytes, and the texts of as many items
abbrev pub counted_text : {X : Type 0} → (X → List ℕ) → List X → List ℕ
counted_text text items = u2 (length items) ++ flat_map text items

-- a field (JVMS 4.5) or a method (JVMS 4.6)
abbrev pub member_text : Member → List ℕ
member_text m = u2 m.access ++ (u2 m.name ++ (u2 m.desc ++ counted_text attr_text m.attrs))

-- the magic number, the versions, the pool, the class itself, its interfaces, fields, methods and
-- attributes
abbrev pub class_text : ClassFile → List ℕ
class_text c =
    u4 0xCAFEBABE ++ (u2 c.minor ++ (u2 c.major ++ (pool_text c.pool ++ (u2 c.access ++ (u2 c.this_class ++ (u2 c.super_class
    ++ (counted_text u2 c.interfaces ++ (counted_text member_text c.fields ++ (counted_text member_text c.methods ++ counted_text attr_text c.attrs)))))))))

-- ---- fields and methods

-- a flag of a set of access flags (JVMS tables 4.1-A, 4.5-A and 4.6-A)
abbrev pub has_flag : ℕ → ℕ → Bool
has_flag access flag = bit_and access flag == flag

abbrev pub is_static : Member → Bool
is_static m = has_flag m.access 8

abbrev pub is_native : Member → Bool
is_native m = has_flag m.access 0x100

abbrev pub is_abstract : Member → Bool
is_abstract m = has_flag m.access 0x400

-- the attribute is a method's code
abbrev pub is_code_body : AttrBody CodeAttr → Bool
is_code_body (Code c) = true
is_code_body (Maps frames) = false
is_code_body (Raw bytes) = false

abbrev pub has_code : Attr CodeAttr → Bool
has_code a = is_code_body a.body

-- the numbers of a member fit two bytes, and its attributes are those of its owner
pub record IsMember (items : List PoolItem) (o : owners.Owner) (major : ℕ) (m : Member) : Type 0 where
  pub access : IsU2 m.access
  pub name : IsU2 m.name
  pub desc : IsU2 m.desc
  pub attrs : AllByRecursion (IsAttr items o major) m.attrs

-- a field has the name and the descriptor of a field (JVMS 4.5)
pub record IsField (items : List PoolItem) (m : Member) : Type 0 where
  pub name : HasText items m.name IsFieldName
  pub descriptor : HasText items m.desc IsFieldDescriptor

-- a method has the name of a method and a method descriptor, whose words include a receiver unless it is
-- static (JVMS 4.6, 4.3.3); it is not both static and abstract; and it has one attribute Code, or none where
-- it is native or abstract (JVMS 4.7.3)
pub record IsMethodMember (items : List PoolItem) (m : Member) : Type 0 where
  pub name : HasText items m.name IsMethodName
  pub descriptor : HasText items m.desc (IsMethodDescriptor (not (is_static m)))
  pub flags : (is_static m && is_abstract m) ≡ false
  pub code : count_by has_code m.attrs ≡ (if is_native m || is_abstract m then 0 else 1)

-- no two of them share name and descriptor (JVMS 4.5, 4.6)
abbrev pub AreDistinct : List PoolItem → List Member → Type 0
AreDistinct items members = (i j : ℕ) (a b : Member) → slice_get members i ≡ Some a → slice_get members j ≡ Some b
    → text_at items a.name ≡ text_at items b.name → text_at items a.desc ≡ text_at items b.desc → i ≡ j

-- ---- a class

-- the numbers of the file fit two bytes
pub record HasNumbers (c : ClassFile) : Type 0 where
  pub minor : IsU2 c.minor
  pub major : IsU2 c.major
  pub access : IsU2 c.access
  pub this_class : IsU2 c.this_class
  pub super_class : IsU2 c.super_class
  pub interfaces : AllByRecursion IsU2 c.interfaces

-- the parts of the file, by themselves: the pool (JVMS 4.4), the members (JVMS 4.5, 4.6) and the attributes
-- (JVMS 4.7)
pub record HasParts (c : ClassFile) : Type 0 where
  pub numbers : HasNumbers c
  pub pool : IsPool c.pool
  pub fields : AllByRecursion (IsMember c.pool owner.Field c.major) c.fields
  pub methods : AllByRecursion (IsMember c.pool owner.Method c.major) c.methods
  pub attrs : AllByRecursion (IsAttr c.pool owner.Class c.major) c.attrs

-- the rules that parts of the file keep together
pub record KeepsRules (c : ClassFile) : Type 0 where
  pub named : IsNamedPool c.pool
  -- the class, its superclass, where it has one, and its interfaces are classes, and no array types
  pub this_class : HasClassName c.pool c.this_class
  pub super_class : (c.super_class ≡ 0) ⊎ HasClassName c.pool c.super_class
  pub interfaces : AllByRecursion (HasClassName c.pool) c.interfaces
  pub fields : AllByRecursion (IsField c.pool) c.fields
  pub methods : AllByRecursion (IsMethodMember c.pool) c.methods
  pub distinct_fields : AreDistinct c.pool c.fields
  pub distinct_methods : AreDistinct c.pool c.methods

-- a class, apart from how many parts it may have and how long they may be
pub record IsClass (c : ClassFile) : Type 0 where
  pub parts : HasParts c
  pub rules : KeepsRules c

-- the indices of the pool fit two bytes, and so does their count, which is one more than the last
abbrev pub HasFewItems : ClassFile → Type 0
HasFewItems c = 1 + length c.pool < 2 ^ 16

-- the counts of a member's attributes fit two bytes
pub record IsFewMember (m : Member) : Type 0 where
  pub attrs : length m.attrs < 2 ^ 16
  pub each : AllByRecursion HasFew m.attrs

-- each other count of two bytes fits them
pub record HasFewParts (c : ClassFile) : Type 0 where
  pub interfaces : length c.interfaces < 2 ^ 16
  pub fields : length c.fields < 2 ^ 16
  pub methods : length c.methods < 2 ^ 16
  pub attrs : length c.attrs < 2 ^ 16
  pub each_field : AllByRecursion IsFewMember c.fields
  pub each_method : AllByRecursion IsFewMember c.methods
  pub each_attr : AllByRecursion HasFew c.attrs

-- a text of the pool and a code have at most 65535 bytes, and an attribute at most 2 ^ 32 - 1
pub record HasShortParts (c : ClassFile) : Type 0 where
  pub pool : AllByRecursion IsShortItem c.pool
  pub fields : AllByRecursion (λ (m : Member). AllByRecursion IsShort m.attrs) c.fields
  pub methods : AllByRecursion (λ (m : Member). AllByRecursion IsShort m.attrs) c.methods
  pub attrs : AllByRecursion IsShort c.attrs

-- the bytes are the text of the class, and no byte more
pub record ClassText (c : ClassFile) (bytes : List ℕ) : Type 0 where
  pub is_class : IsClass c
  pub few_items : HasFewItems c
  pub few_parts : HasFewParts c
  pub short_parts : HasShortParts c
  pub spelled : bytes ≡ class_text c
