-- Whether a class keeps the rules on names, descriptors and members is decided.
use Rattle.std.proofs.Common.{◌≡◌, ◌≢◌, ◌⊎◌, inl, inr, ⊎_elim, ℕ, zero, suc, Bool, true, false, eqb, not, ◌&&◌, ◌||◌, if◌then◌else◌, count_by, List, [], ◌∷◌, Option, Some, None, slice_get, codes, refl, sym, ap, subst, ◌∙◌, arith}
use Rattle.std.specs.List.{AllByRecursion}
use Rattle.std.proofs.lemmas.Bool.Decides.{Decides-eqb}
use Rattle.jv_lists.proofs.Places.{heads}
use Rattle.jv_types.specs.NameForms.{is_class_name, is_part, is_method_name}
use Rattle.jv_pool.specs.declared.item.PoolItem.{PoolItem}
use Rattle.jv_pool.specs.declared.item.PoolItem.TheVariants.{Class, Field, Method, InterfaceMethod, NameAndType}
use Rattle.jv_pool.specs.Lookups.{item_at, text_at, class_name_at}
use Rattle.jv_names.specs.Spellings.{IsClassName, IsFieldName, IsMethodName, IsCalledName, IsFieldDescriptor, IsArrayDescriptor, IsTypeName, IsMethodDescriptor}
use Rattle.jv_names.specs.PoolNames.{HasText, HasClassName, HasNames, IsNamedItem, IsNamedPool}
use Rattle.jv_class.specs.declared.class_file.Member.{Member}
use Rattle.jv_class.specs.declared.class_file.ClassFile.{ClassFile}
use Rattle.jv_class.specs.ClassTexts.{is_static, is_native, is_abstract, has_code, IsField, IsMethodMember, AreDistinct, KeepsRules}
use Rattle.jv_read.proofs.Fronts.{some_is}
use Rattle.jv_stated.proofs.Deciding.{IsDecided, like, both, either, denial, by_test, by_decides, each, same_text, same_found, there}
use Rattle.jv_stated.proofs.Descriptors.{field_descriptor, method_descriptor}

-- ---- texts

class_name : (text : List ℕ) → IsDecided (IsClassName text)
class_name text = by_test (is_class_name text)

field_name : (text : List ℕ) → IsDecided (IsFieldName text)
field_name text = by_test (is_part text)

method_name : (text : List ℕ) → IsDecided (IsMethodName text)
method_name text = by_test (is_method_name text)

called_name : (text : List ℕ) → IsDecided (IsCalledName text)
called_name text =
    like (λ h. record { is_name = h.0; no_initialiser = h.1 }) (λ h. (h.is_name, h.no_initialiser)) (both (method_name text) (denial (same_text text (codes "<clinit>"))))

array_descriptor : (text : List ℕ) → IsDecided (IsArrayDescriptor text)
array_descriptor [] = inr (λ h. let e : [] ≡ 91 ∷ h.component = h.begins in cc)
array_descriptor (b ∷ bs) =
    like (λ h. record { component = bs; begins = ap (λ (z : ℕ). z ∷ bs) h.0; descriptor = h.1 }) (λ h. ((heads b 91 bs h.component h.begins).0, h.descriptor)) (both (by_decides (eqb b 91) (Decides-eqb b 91)) (field_descriptor (b ∷ bs)))

type_name : (text : List ℕ) → IsDecided (IsTypeName text)
type_name text = either (class_name text) (array_descriptor text)

-- ---- what an index names

has_text : (items : List PoolItem) (index : ℕ) (Kind : List ℕ → Type 0) → ((text : List ℕ) → IsDecided (Kind text)) → IsDecided (HasText items index Kind)
has_text items index Kind d =
    like (λ h. record { text = h.0; found = h.1; kind = h.2 }) (λ h. (h.text, h.found, h.kind)) (there (text_at items index) Kind d)

has_class_name : (items : List PoolItem) (index : ℕ) → IsDecided (HasClassName items index)
has_class_name items index =
    like (λ h. record { text = h.0; found = h.1; kind = h.2 }) (λ h. (h.text, h.found, h.kind)) (there (class_name_at items index) IsClassName class_name)

-- an item is a pair of a name and a descriptor of these kinds
data IsPair (items : List PoolItem) (Name Descriptor : List ℕ → Type 0) (item : PoolItem) : Type 0 where
  paired : (name desc : ℕ) → item ≡ NameAndType name desc → HasText items name Name → HasText items desc Descriptor → IsPair items Name Descriptor item

has_names : (items : List PoolItem) (index : ℕ) (Name Descriptor : List ℕ → Type 0) → ((text : List ℕ) → IsDecided (Name text)) → ((text : List ℕ) → IsDecided (Descriptor text)) → IsDecided (HasNames items index Name Descriptor)
has_names items index Name Descriptor n d = like out back (there (item_at items index) (IsPair items Name Descriptor) is_pair)
  where
    of_pair : (name desc : ℕ) → IsDecided (IsPair items Name Descriptor (NameAndType name desc))
    of_pair name desc =
        like (λ h. paired name desc refl h.0 h.1) unpaired (both (has_text items name Name n) (has_text items desc Descriptor d))
      where
        unpaired : IsPair items Name Descriptor (NameAndType name desc) → HasText items name Name × HasText items desc Descriptor
        unpaired (paired x y e p q) =
            let same_name : name ≡ x = cc in
            let same_desc : desc ≡ y = cc in
            (subst (λ (k : ℕ). HasText items k Name) (sym same_name) p, subst (λ (k : ℕ). HasText items k Descriptor) (sym same_desc) q)

    is_pair : (item : PoolItem) → IsDecided (IsPair items Name Descriptor item)
    is_pair (NameAndType name desc) = of_pair name desc
    is_pair _ = inr (λ h. elim h [ paired x y e p q ↦ cc ])

    out : ((item : PoolItem) × (item_at items index ≡ Some item) × IsPair items Name Descriptor item) → HasNames items index Name Descriptor
    out (item, found, paired x y e p q) = record { name_index = x; desc_index = y; found = found ∙ ap Some e; name = p; descriptor = q }

    back : HasNames items index Name Descriptor → (item : PoolItem) × (item_at items index ≡ Some item) × IsPair items Name Descriptor item
    back h = (NameAndType h.name_index h.desc_index, h.found, paired h.name_index h.desc_index refl h.name h.descriptor)

named_item : (items : List PoolItem) (item : PoolItem) → IsDecided (IsNamedItem items item)
named_item items (Class name) = has_text items name IsTypeName type_name
named_item items (Field class pair) = has_names items pair IsFieldName IsFieldDescriptor field_name field_descriptor
named_item items (Method class pair) = has_names items pair IsCalledName (IsMethodDescriptor false) called_name (method_descriptor false)
named_item items (InterfaceMethod class pair) = has_names items pair IsCalledName (IsMethodDescriptor false) called_name (method_descriptor false)
named_item items _ = inl tt

-- ---- members

is_field : (items : List PoolItem) (m : Member) → IsDecided (IsField items m)
is_field items m =
    like (λ h. record { name = h.0; descriptor = h.1 }) (λ h. (h.name, h.descriptor)) (both (has_text items m.name IsFieldName field_name) (has_text items m.desc IsFieldDescriptor field_descriptor))

flags_agree : (m : Member) → IsDecided ((is_static m && is_abstract m) ≡ false)
flags_agree m = by (is_static m && is_abstract m)
  where
    by : (t : Bool) → IsDecided (t ≡ false)
    by false = inl refl
    by true = inr (λ e. cc)

is_method : (items : List PoolItem) (m : Member) → IsDecided (IsMethodMember items m)
is_method items m =
    like (λ h. record { name = h.0.0; descriptor = h.0.1; flags = h.1.0; code = h.1.1 }) (λ h. ((h.name, h.descriptor), (h.flags, h.code)))
    (both
    (both (has_text items m.name IsMethodName method_name) (has_text items m.desc (IsMethodDescriptor (not (is_static m))) (method_descriptor (not (is_static m)))))
    (both (flags_agree m) (by_decides (eqb (count_by has_code m.attrs) (if is_native m || is_abstract m then 0 else 1)) (Decides-eqb (count_by has_code m.attrs) (if is_native m || is_abstract m then 0 else 1)))))

-- ---- members that are distinct

-- two members share name and descriptor
abbrev AreTwins : List PoolItem → Member → Member → Type 0
AreTwins items a b = (text_at items a.name ≡ text_at items b.name) × (text_at items a.desc ≡ text_at items b.desc)

abbrev IsAlone : List PoolItem → Member → List Member → Type 0
IsAlone items a members = AllByRecursion (λ (b : Member). AreTwins items a b → ⊥) members

is_alone : (items : List PoolItem) (a : Member) (members : List Member) → IsDecided (IsAlone items a members)
is_alone items a members =
    each (λ (b : Member). AreTwins items a b → ⊥) (λ b. denial (both (same_found (text_at items a.name) (text_at items b.name)) (same_found (text_at items a.desc) (text_at items b.desc)))) members

alone_at : (items : List PoolItem) (a : Member) (members : List Member) (j : ℕ) (b : Member) → IsAlone items a members → slice_get members j ≡ Some b → AreTwins items a b → ⊥
alone_at items a [] j b h e twins = cc
alone_at items a (m ∷ ms) zero b h e twins = h.0 (subst (λ (x : Member). AreTwins items a x) (sym (some_is m b e)) twins)
alone_at items a (m ∷ ms) (suc j) b h e twins = alone_at items a ms j b h.1 e twins

alone_from : (items : List PoolItem) (a : Member) (members : List Member) → ((j : ℕ) (b : Member) → slice_get members j ≡ Some b → AreTwins items a b → ⊥) → IsAlone items a members
alone_from items a [] f = tt
alone_from items a (m ∷ ms) f = (f 0 m refl, alone_from items a ms (λ j b e. f (suc j) b e))

distinct_more : (items : List PoolItem) (m : Member) (ms : List Member) → IsAlone items m ms → AreDistinct items ms → AreDistinct items (m ∷ ms)
distinct_more items m ms alone rest zero zero a b p q n d = refl
distinct_more items m ms alone rest zero (suc j) a b p q n d =
    let same = some_is m a p in
    absurd (alone_at items m ms j b alone q (ap (λ (x : Member). text_at items x.name) same ∙ n, ap (λ (x : Member). text_at items x.desc) same ∙ d))
distinct_more items m ms alone rest (suc i) zero a b p q n d =
    let same = some_is m b q in
    absurd (alone_at items m ms i a alone p (ap (λ (x : Member). text_at items x.name) same ∙ sym n, ap (λ (x : Member). text_at items x.desc) same ∙ sym d))
distinct_more items m ms alone rest (suc i) (suc j) a b p q n d = ap suc (rest i j a b p q n d)

distinct_front : (items : List PoolItem) (m : Member) (ms : List Member) → AreDistinct items (m ∷ ms) → IsAlone items m ms × AreDistinct items ms
distinct_front items m ms h = (
  alone_from items m ms (λ j b e twins. let same : 0 ≡ suc j = h 0 (suc j) m b refl e twins.0 twins.1 in absurd (omega arith)),
  λ i j a b p q n d. let same : suc i ≡ suc j = h (suc i) (suc j) a b p q n d in omega arith,
)

distinct : (items : List PoolItem) (members : List Member) → IsDecided (AreDistinct items members)
distinct items [] = inl (λ i j a b p q n d. absurd (let e : None ≡ Some a = p in cc))
distinct items (m ∷ ms) = like (λ h. distinct_more items m ms h.0 h.1) (distinct_front items m ms) (both (is_alone items m ms) (distinct items ms))

-- ---- a class

super_named : (c : ClassFile) → IsDecided ((c.super_class ≡ 0) ⊎ HasClassName c.pool c.super_class)
super_named c = either (by_decides (eqb c.super_class 0) (Decides-eqb c.super_class 0)) (has_class_name c.pool c.super_class)

pub rules : (c : ClassFile) → IsDecided (KeepsRules c)
rules c =
    like
    (λ h. record {
      named = h.0.0.0;
      this_class = h.0.0.1;
      super_class = h.0.1.0;
      interfaces = h.0.1.1;
      fields = h.1.0.0;
      methods = h.1.0.1;
      distinct_fields = h.1.1.0;
      distinct_methods = h.1.1.1;
    })
    (λ h. (((h.named, h.this_class), (h.super_class, h.interfaces)), ((h.fields, h.methods), (h.distinct_fields, h.distinct_methods))))
    (both
    (both (both (each (IsNamedItem c.pool) (named_item c.pool) c.pool) (has_class_name c.pool c.this_class)) (both (super_named c) (each (HasClassName c.pool) (has_class_name c.pool) c.interfaces)))
    (both (both (each (IsField c.pool) (is_field c.pool) c.fields) (each (IsMethodMember c.pool) (is_method c.pool) c.methods)) (both (distinct c.pool c.fields) (distinct c.pool c.methods))))
