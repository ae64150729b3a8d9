-- What an index of a constant pool names: a class, a class or array type, a field or a method (JVMS 4.4).
use Rattle.std.specs.Prelude.{◌≡◌, ℕ, Bool, true, false, List, Option, Some, None, option_and_then}
use Rattle.jv_types.specs.declared.desc.RefType.{RefType, Class, PrimArray, Array'}
use Rattle.jv_types.specs.declared.desc.Desc.TheVariants as descs
use Rattle.jv_types.specs.declared.references.FieldRef.{FieldRef}
use Rattle.jv_types.specs.declared.references.MethodRef.{MethodRef}
use Rattle.jv_desc.specs.Texts.{ref_text, IsFieldText, IsMethodText}
use Rattle.jv_pool.specs.declared.item.PoolItem.{PoolItem}
use Rattle.jv_pool.specs.declared.item.PoolItem.TheVariants as items
use Rattle.jv_pool.specs.Lookups.{item_at, text_at, class_name_at, name_and_type_at}
use Rattle.jv_names.specs.Spellings.{IsClassName}

-- ---- classes

-- the text names this class or array type: a class by its name, and an array by its descriptor (JVMS 4.4.1)
abbrev pub IsTypeText : List ℕ → RefType → Type 0
IsTypeText text (Class name) = (text ≡ name) × IsClassName name
IsTypeText text (PrimArray prim) = IsFieldText text (descs.Ref (PrimArray prim))
IsTypeText text (Array' shape all) = IsFieldText text (descs.Ref (Array' shape all))

-- the text that names a class or array type
abbrev pub type_text : RefType → List ℕ
type_text (Class name) = name
type_text (PrimArray prim) = ref_text (PrimArray prim)
type_text (Array' shape all) = ref_text (Array' shape all)

-- the index names this class or array type
pub record NamesType (pool : List PoolItem) (index : ℕ) (type : RefType) : Type 0 where
  pub text : List ℕ
  pub found : class_name_at pool index ≡ Some text
  pub spelled : IsTypeText text type

-- the index names this class, and no array type
pub record NamesClass (pool : List PoolItem) (index : ℕ) (name : List ℕ) : Type 0 where
  pub found : class_name_at pool index ≡ Some name
  pub is_name : IsClassName name

-- ---- members

-- the name and the descriptor at an index (JVMS 4.4.6)
abbrev pub texts_of : List PoolItem → ℕ × ℕ → Option (List ℕ × List ℕ)
texts_of pool pair = option_and_then (λ (name : List ℕ). option_and_then (λ (desc : List ℕ). Some (name, desc)) (text_at pool pair.1)) (text_at pool pair.0)

abbrev pub texts_at : List PoolItem → ℕ → Option (List ℕ × List ℕ)
texts_at pool index = option_and_then (texts_of pool) (name_and_type_at pool index)

-- the class of an item that refers to a field, and its name and descriptor
abbrev pub field_in : PoolItem → Option (ℕ × ℕ)
field_in (items.Field class pair) = Some (class, pair)
field_in _ = None

-- the same of an item that refers to a method, and whether it is a method of an interface
abbrev pub method_in : PoolItem → Option (Bool × ℕ × ℕ)
method_in (items.Method class pair) = Some (false, class, pair)
method_in (items.InterfaceMethod class pair) = Some (true, class, pair)
method_in _ = None

-- the index names this field, of a class and not of an array (JVMS 4.4.2)
pub record NamesField (pool : List PoolItem) (index : ℕ) (field : FieldRef) : Type 0 where
  pub class : ℕ
  pub pair : ℕ
  pub desc : List ℕ
  pub item : option_and_then field_in (item_at pool index) ≡ Some (class, pair)
  pub class_is : NamesClass pool class field.class
  pub texts : texts_at pool pair ≡ Some (field.name, desc)
  pub spelled : IsFieldText desc field.desc

-- the index names this method (JVMS 4.4.2)
pub record NamesMethod (pool : List PoolItem) (index : ℕ) (method : MethodRef) : Type 0 where
  pub class : ℕ
  pub pair : ℕ
  pub desc : List ℕ
  pub item : option_and_then method_in (item_at pool index) ≡ Some (method.interface, class, pair)
  pub class_is : NamesType pool class method.class
  pub texts : texts_at pool pair ≡ Some (method.name, desc)
  pub spelled : IsMethodText desc method.desc
