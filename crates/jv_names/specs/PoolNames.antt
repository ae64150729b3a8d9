-- The names and descriptors that the items of a constant pool keep (JVMS 4.4).
use Rattle.std.specs.Prelude.{◌≡◌, ℕ, false, List, Some}
use Rattle.std.specs.List.{AllByRecursion}
use Rattle.jv_pool.specs.declared.item.PoolItem.{PoolItem}
use Rattle.jv_pool.specs.declared.item.PoolItem.TheVariants.{Class, Field, Method, InterfaceMethod, NameAndType}
use Rattle.jv_pool.specs.Lookups.{item_at, text_at, class_name_at}
use Rattle.jv_names.specs.Spellings.{IsClassName, IsFieldName, IsCalledName, IsFieldDescriptor, IsTypeName, IsMethodDescriptor}

-- the index names a text of this kind
pub record HasText (items : List PoolItem) (index : ℕ) (Kind : List ℕ → Type 0) : Type 0 where
  pub text : List ℕ
  pub found : text_at items index ≡ Some text
  pub kind : Kind text

-- the index names a class, and not an array type
pub record HasClassName (items : List PoolItem) (index : ℕ) : Type 0 where
  pub text : List ℕ
  pub found : class_name_at items index ≡ Some text
  pub kind : IsClassName text

-- the index names a name and a descriptor of these kinds (JVMS 4.4.6)
pub record HasNames (items : List PoolItem) (index : ℕ) (Name Descriptor : List ℕ → Type 0) : Type 0 where
  pub name_index : ℕ
  pub desc_index : ℕ
  pub found : item_at items index ≡ Some (NameAndType name_index desc_index)
  pub name : HasText items name_index Name
  pub descriptor : HasText items desc_index Descriptor

-- an item keeps the rules on names and descriptors: a class has the name of a class or interface or an
-- array descriptor (JVMS 4.4.1); a field that is referred to has the name and the descriptor of a field, and
-- a method that is referred to those of a method that may be called (JVMS 4.4.2), without a receiver
abbrev pub IsNamedItem : List PoolItem → PoolItem → Type 0
IsNamedItem items (Class name) = HasText items name IsTypeName
IsNamedItem items (Field class pair) = HasNames items pair IsFieldName IsFieldDescriptor
IsNamedItem items (Method class pair) = HasNames items pair IsCalledName (IsMethodDescriptor false)
IsNamedItem items (InterfaceMethod class pair) = HasNames items pair IsCalledName (IsMethodDescriptor false)
IsNamedItem items _ = Unit {0}

-- each item of the pool keeps them
abbrev pub IsNamedPool : List PoolItem → Type 0
IsNamedPool items = AllByRecursion (IsNamedItem items) items
