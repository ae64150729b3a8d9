-- What an index names in the pool of a class file, where its item has the right tag.
use Rattle.std.proofs.Common.{◌≡◌, ℕ, Bool, true, false, ◌&&◌, List, [], ◌∷◌, ◌++◌, Option, Some, None, refl, sym, ap, ◌∙◌, ◌⊎◌, inl, inr, arith}
use Rattle.std.specs.Prelude.{option_and_then}
use Rattle.std.specs.Option.{option_map_or}
use Rattle.std.specs.List.{AllByRecursion}
use Rattle.std.proofs.lemmas.Bool.{and_parts}
use Rattle.jv_types.specs.declared.desc.PrimType.{PrimType}
use Rattle.jv_types.specs.declared.desc.PrimType.TheVariants.{Boolean, Char, Float, Double, Byte, Short, Int, Long}
use Rattle.jv_types.specs.declared.desc.RefType.{RefType, Class, PrimArray, Array'}
use Rattle.jv_types.specs.declared.desc.Desc.{Desc}
use Rattle.jv_types.specs.declared.desc.Desc.TheVariants as descs
use Rattle.jv_types.specs.declared.references.FieldRef.{FieldRef}
use Rattle.jv_types.specs.declared.references.MethodRef.{MethodRef}
use Rattle.jv_types.specs.declared.instruction.Const.{Const}
use Rattle.jv_types.specs.declared.instruction.Const.TheVariants as consts
use Rattle.jv_desc.specs.Texts.{prim_letter, ref_dims, IsFieldText}
use Rattle.jv_pool.specs.declared.item.PoolItem.{PoolItem}
use Rattle.jv_pool.specs.declared.item.PoolItem.TheVariants as items
use Rattle.jv_pool.specs.Lookups.{item_at, names, is_utf8, is_class, is_name_and_type, text_in, class_name_in, name_and_type_in, name_and_type_at}
use Rattle.jv_pool.specs.PoolText.{is_wide, is_field, is_linked}
use Rattle.jv_names.specs.Spellings.{IsFieldName, IsCalledName, IsFieldDescriptor, IsMethodDescriptor, IsTypeName}
use Rattle.jv_names.specs.PoolNames.{HasText, HasNames, IsNamedPool}
use Rattle.jv_names.specs.Naming.{IsTypeText, NamesType, NamesClass, texts_of, texts_at, field_in, method_in, NamesField, NamesMethod}
use Rattle.jv_names.proofs.NamedOnce.{one_type}
use Rattle.jv_insn.specs.Forms.{is_category_2}
use Rattle.jv_insn.specs.Meanings.{NamesConst}
use Rattle.jv_insn.specs.Causes.{NamesArray, is_narrow_constant}
use Rattle.jv_insn.proofs.Keeping.{item_has, item_keeps, method_item, method_names}

-- ---- an item, and its parts

-- an index that names an item names one that passes the test
pub names_item : (test : PoolItem → Bool) (o : Option PoolItem) → option_map_or test o false ≡ true → (item : PoolItem) × (o ≡ Some item) × (test item ≡ true)
names_item test None e = absurd cc
names_item test (Some item) e = (item, refl, e)

-- a text stands where one is found
is_text : (o : Option PoolItem) (text : List ℕ) → option_and_then text_in o ≡ Some text → option_map_or is_utf8 o false ≡ true
is_text None text e = absurd cc
is_text (Some (items.Utf8 bytes)) text e = refl
is_text (Some _) text e = absurd cc

-- the texts of a name and a descriptor
texts_named : (pool : List PoolItem) (pair : ℕ) (Name Descriptor : List ℕ → Type 0) (h : HasNames pool pair Name Descriptor) → texts_at pool pair ≡ Some (h.name.text, h.descriptor.text)
texts_named pool pair Name Descriptor h =
    let first = is_text (item_at pool h.name_index) h.name.text h.name.found in
    let second = is_text (item_at pool h.desc_index) h.descriptor.text h.descriptor.found in
    let found : name_and_type_at pool pair ≡ Some (h.name_index, h.desc_index) = ap (option_and_then (name_and_type_in pool)) h.found ∙ rw (first, second) refl in
    ap (option_and_then (texts_of pool)) found ∙ rw (h.name.found, h.descriptor.found) refl

-- ---- types

-- the first byte of a text
abbrev first_byte : List ℕ → ℕ
first_byte [] = 0
first_byte (byte ∷ bytes) = byte

begins_so : (a b : ℕ) (xs ys : List ℕ) → a ∷ xs ≡ b ∷ ys → a ≡ b
begins_so a b xs ys e = ap first_byte e

prim_is_no_array : (prim : PrimType) → prim_letter prim ≡ 91 → ⊥
prim_is_no_array Boolean e = omega (arith, e)
prim_is_no_array Char e = omega (arith, e)
prim_is_no_array Float e = omega (arith, e)
prim_is_no_array Double e = omega (arith, e)
prim_is_no_array Byte e = omega (arith, e)
prim_is_no_array Short e = omega (arith, e)
prim_is_no_array Int e = omega (arith, e)
prim_is_no_array Long e = omega (arith, e)

array_text : (text component : List ℕ) (type : Desc) → IsFieldText text type → text ≡ 91 ∷ component → (type : RefType) × IsTypeText text type
array_text text component (descs.Prim prim) h b = absurd (prim_is_no_array prim (begins_so (prim_letter prim) 91 [] component (sym h.spelled ∙ b)))
array_text text component (descs.Ref (Class name)) h b = let e = begins_so 76 91 (name ++ 59 ∷ []) component (sym h.spelled ∙ b) in absurd (omega (arith, e))
array_text text component (descs.Ref (PrimArray prim)) h b = (PrimArray prim, h)
array_text text component (descs.Ref (Array' shape all)) h b = (Array' shape all, h)

type_text_of : (text : List ℕ) → IsTypeName text → (type : RefType) × IsTypeText text type
type_text_of text (inl name) = (Class text, (refl, name))
type_text_of text (inr array) = array_text text array.component array.descriptor.type array.descriptor.spelled array.begins

-- a class or array type stands where a class item does
pub named_type : (pool : List PoolItem) (index : ℕ) → IsNamedPool pool → names is_class pool index ≡ true → (type : RefType) × NamesType pool index type
named_type pool index named e = let i = names_item is_class (item_at pool index) e in by i.0 i.1 i.2
  where
    by : (item : PoolItem) → item_at pool index ≡ Some item → is_class item ≡ true → (type : RefType) × NamesType pool index type
    by (items.Class name) at t =
        let h : HasText pool name IsTypeName = item_keeps pool index (items.Class name) named at in
        let type = type_text_of h.text h.kind in
        (type.0, record { text = h.text; found = ap (option_and_then (class_name_in pool)) at ∙ h.found; spelled = type.1 })
    by _ at t = absurd cc

-- it is a class, or an array type
pub class_or_array : (pool : List PoolItem) (index : ℕ) (type : RefType) → NamesType pool index type → ((name : List ℕ) × NamesClass pool index name) ⊎ NamesArray pool index
class_or_array pool index (Class name) h = inl (name, record { found = h.found ∙ ap (λ (t : List ℕ). Some t) h.spelled.0; is_name = h.spelled.1 })
class_or_array pool index (PrimArray prim) h = inr (record { type = PrimArray prim; named = h; some = omega arith })
class_or_array pool index (Array' shape all) h = inr (record { type = Array' shape all; named = h; some = omega arith })

-- and never both
pub class_is_no_array : (pool : List PoolItem) (index : ℕ) (name : List ℕ) → NamesClass pool index name → NamesArray pool index → ⊥
class_is_no_array pool index name h array =
    let same = one_type pool index (Class name) array.type (record { text = name; found = h.found; spelled = (refl, h.is_name) }) array.named in
    let none : 0 ≡ ref_dims array.type = ap ref_dims same in
    let some = array.some in
    omega (arith, none, some)

-- ---- constants

pub narrow_constant : (pool : List PoolItem) (index : ℕ) → IsNamedPool pool → names is_narrow_constant pool index ≡ true → (const : Const) × NamesConst pool index const × (is_category_2 const ≡ false)
narrow_constant pool index named e = let i = names_item is_narrow_constant (item_at pool index) e in by i.0 i.1 i.2
  where
    by : (item : PoolItem) → item_at pool index ≡ Some item → is_narrow_constant item ≡ true → (const : Const) × NamesConst pool index const × (is_category_2 const ≡ false)
    by (items.Integer value) at t = (consts.Int value, at, refl)
    by (items.Float bits) at t = (consts.Float bits, at, refl)
    by (items.Text text) at t = (consts.Text, (text, at), refl)
    by (items.Class name) at t =
        let type = named_type pool index named (ap (λ (o : Option PoolItem). option_map_or is_class o false) at) in
        (consts.Class type.0, type.1, refl)
    by (items.MethodHandle kind member) at t = (consts.Handle, (kind, member, at), refl)
    by (items.MethodType desc) at t = (consts.MethodKind, (desc, at), refl)
    by _ at t = absurd cc

pub wide_constant : (pool : List PoolItem) (index : ℕ) → names is_wide pool index ≡ true → (const : Const) × NamesConst pool index const × (is_category_2 const ≡ true)
wide_constant pool index e = let i = names_item is_wide (item_at pool index) e in by i.0 i.1 i.2
  where
    by : (item : PoolItem) → item_at pool index ≡ Some item → is_wide item ≡ true → (const : Const) × NamesConst pool index const × (is_category_2 const ≡ true)
    by (items.Long value) at t = (consts.Long value, at, refl)
    by (items.Double bits) at t = (consts.Double bits, at, refl)
    by _ at t = absurd cc

-- ---- members

-- each item's own indices are of the right tag
abbrev pub AreLinked : List PoolItem → Type 0
AreLinked pool = AllByRecursion (λ item. is_linked pool item ≡ true) pool

-- a field of an array type
abbrev pub NamesFieldOfArray : List PoolItem → ℕ → Type 0
NamesFieldOfArray pool index = (class : ℕ) × (pair : ℕ) × (item_at pool index ≡ Some (items.Field class pair)) × NamesArray pool class

pub field_or_array : (pool : List PoolItem) (index : ℕ) → AreLinked pool → IsNamedPool pool → names is_field pool index ≡ true → ((field : FieldRef) × NamesField pool index field) ⊎ NamesFieldOfArray pool index
field_or_array pool index linked named e = let i = names_item is_field (item_at pool index) e in by i.0 i.1 i.2
  where
    by : (item : PoolItem) → item_at pool index ≡ Some item → is_field item ≡ true → ((field : FieldRef) × NamesField pool index field) ⊎ NamesFieldOfArray pool index
    by (items.Field class pair) at t =
        let parts = and_parts (names is_class pool class) (names is_name_and_type pool pair) (item_has (λ item. is_linked pool item ≡ true) pool index (items.Field class pair) linked at) in
        let n : HasNames pool pair IsFieldName IsFieldDescriptor = item_keeps pool index (items.Field class pair) named at in
        let type = named_type pool class named parts.0 in
        elim (class_or_array pool class type.0 type.1) [
          | inl c ↦ inl (
            record { class = c.0; name = n.name.text; desc = n.descriptor.kind.type },
            record {
              class = class;
              pair = pair;
              desc = n.descriptor.text;
              item = ap (option_and_then field_in) at;
              class_is = c.1;
              texts = texts_named pool pair IsFieldName IsFieldDescriptor n;
              spelled = n.descriptor.kind.spelled;
            },
          )
          | inr array ↦ inr (class, pair, at, array)
        ]
    by _ at t = absurd cc

method_in_item : (interface : Bool) (class pair : ℕ) → method_in (method_item interface class pair) ≡ Some (interface, class, pair)
method_in_item true class pair = refl
method_in_item false class pair = refl

linked_method : (pool : List PoolItem) (interface : Bool) (class pair : ℕ) → is_linked pool (method_item interface class pair) ≡ true → (names is_class pool class && names is_name_and_type pool pair) ≡ true
linked_method pool true class pair e = e
linked_method pool false class pair e = e

-- a method of a class, or of an interface
pub named_method : (pool : List PoolItem) (index : ℕ) (interface : Bool) (class pair : ℕ) → AreLinked pool → IsNamedPool pool → item_at pool index ≡ Some (method_item interface class pair)
    → (method : MethodRef) × NamesMethod pool index method × (method.interface ≡ interface)
named_method pool index interface class pair linked named at =
    let item = method_item interface class pair in
    let link = linked_method pool interface class pair (item_has (λ item. is_linked pool item ≡ true) pool index item linked at) in
    let parts = and_parts (names is_class pool class) (names is_name_and_type pool pair) link in
    let n = method_names pool interface class pair (item_keeps pool index item named at) in
    let type = named_type pool class named parts.0 in (
      record { class = type.0; name = n.name.text; desc = n.descriptor.kind.method; interface = interface },
      record {
        class = class;
        pair = pair;
        desc = n.descriptor.text;
        item = ap (option_and_then method_in) at ∙ method_in_item interface class pair;
        class_is = type.1;
        texts = texts_named pool pair IsCalledName (IsMethodDescriptor false) n;
        spelled = n.descriptor.kind.spelled;
      },
      refl,
    )
