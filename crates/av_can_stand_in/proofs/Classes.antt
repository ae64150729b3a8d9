-- The classes of class files have the form that a class of a class file must have, and their members are distinct.
use Rattle.std.proofs.Common.{◌≡◌, ◌<◌, ◌^◌, ℕ, ◌⊎◌, inl, inr, Bool, List, Option, None, Some, IfSome, Contains, length, slice_get, sym, ap, ◌∙◌, subst}
use Rattle.std.proofs.lemmas.Option.{none-some, same_Some}
use Rattle.std.proofs.lemmas.Slice.Zip.{AllZip-long}
use Rattle.jv_lists.proofs.Places.{among_at, each_at, placed}
use Rattle.jv_lists.proofs.Zips.{zip_back}
use Rattle.jv_types.specs.declared.shapes.FieldShape.{FieldShape}
use Rattle.jv_types.specs.declared.shapes.MethodShape.{MethodShape}
use Rattle.jv_types.specs.declared.shapes.Shape.{Shape}
use Rattle.jv_desc.specs.Texts.{desc_text, method_text}
use Rattle.jv_pool.specs.declared.item.PoolItem.{PoolItem}
use Rattle.jv_pool.specs.Lookups.{class_name_at, text_at}
use Rattle.jv_names.specs.PoolNames.{HasClassName}
use Rattle.jv_names.specs.Spellings.{IsClassName}
use Rattle.jv_class.specs.declared.class_file.ClassFile.{ClassFile}
use Rattle.jv_class.specs.Shapes.{IsFieldShape, IsMethodShape, IsParent, IsShapeOf}
use Rattle.av_stops.specs.Programs.{IsOfFile}
use Rattle.av_standin_of.specs.Names.{field_key, method_key}
use Rattle.av_sketches.specs.Conditions.{HasClassForm}
use Rattle.av_can_stand_in.proofs.Members.{field_form, method_form}

-- ---- names

named_at : (items : List PoolItem) (index : ℕ) (name : List ℕ) → HasClassName items index → class_name_at items index ≡ Some name → IsClassName name
named_at items index name has e = subst IsClassName (same_Some has.text name (sym has.found ∙ e)) has.kind

-- index 0 names nothing
at_zero : (items : List PoolItem) (index : ℕ) (name : List ℕ) → index ≡ 0 → class_name_at items index ≡ Some name → ⊥
at_zero items index name none e = none-some name (subst (λ (i : ℕ). class_name_at items i ≡ Some name) none e)

super_at : (items : List PoolItem) (index : ℕ) (name : List ℕ) → (index ≡ 0) ⊎ HasClassName items index → class_name_at items index ≡ Some name → IsClassName name
super_at items index name (inl none) e = absurd (at_zero items index name none e)
super_at items index name (inr has) e = named_at items index name has e

super_named : (items : List PoolItem) (index : ℕ) (parent : Option (List ℕ)) → (index ≡ 0) ⊎ HasClassName items index → IsParent items index parent → IfSome parent IsClassName
super_named items index None own states = tt
super_named items index (Some name) own states = super_at items index name own states

-- ---- a class

module _ (class : ClassFile) (application : Bool) (s : Shape) (file : IsOfFile class) (states : IsShapeOf class application s) where
  interface_named : (name : List ℕ) → Contains s.interfaces name → IsClassName name
  interface_named name among =
      let own = zip_back (λ (index : ℕ) (n : List ℕ). class_name_at class.pool index ≡ Some n) class.interfaces s.interfaces states.interfaces among.0 name (placed s.interfaces name among) in
      named_at class.pool own.0 name (each_at (HasClassName class.pool) class.interfaces among.0 own.0 file.1.is_class.rules.interfaces own.1) own.2

  few_interfaces : length s.interfaces < 2 ^ 16
  few_interfaces =
      let same : length s.interfaces ≡ length class.interfaces =
      AllZip-long (λ (index : ℕ) (n : List ℕ). class_name_at class.pool index ≡ Some n) class.interfaces s.interfaces states.interfaces in
      subst (λ (n : ℕ). n < 2 ^ 16) (sym same) file.1.few_parts.interfaces

  pub class_form : HasClassForm s
  class_form = record {
    named = named_at class.pool class.this_class s.name file.1.is_class.rules.this_class states.name;
    super_named = super_named class.pool class.super_class s.parent file.1.is_class.rules.super_class states.parent;
    interfaces_named = interface_named;
    few_interfaces = few_interfaces;
    fields = λ field among.
        let own = zip_back (IsFieldShape class.pool) class.fields s.fields states.fields among.0 field (placed s.fields field among) in
        field_form class own.0 field file (among_at class.fields among.0 own.0 own.1) own.2;
    methods = λ method among.
        let own = zip_back (IsMethodShape class.pool) class.methods s.methods states.methods among.0 method (placed s.methods method among) in
        method_form class own.0 method file (among_at class.methods among.0 own.0 own.1) own.2;
  }

  -- ---- its members

  -- what names a text names the text that is the same
  same_found : (a b : ℕ) (x y : List ℕ) → text_at class.pool a ≡ Some x → text_at class.pool b ≡ Some y → x ≡ y → text_at class.pool a ≡ text_at class.pool b
  same_found a b x y p q same = p ∙ ap (λ (t : List ℕ). Some t) same ∙ sym q

  -- fields of one name and descriptor stand at one place
  pub one_field : (i j : ℕ) (x y : FieldShape) → slice_get s.fields i ≡ Some x → slice_get s.fields j ≡ Some y → field_key x ≡ field_key y → i ≡ j
  one_field i j x y p q key =
      let a = zip_back (IsFieldShape class.pool) class.fields s.fields states.fields i x p in
      let b = zip_back (IsFieldShape class.pool) class.fields s.fields states.fields j y q in
      let name : x.name ≡ y.name = ap (λ (k : List ℕ × List ℕ). k.0) key in
      let text : desc_text x.desc ≡ desc_text y.desc = ap (λ (k : List ℕ × List ℕ). k.1) key in
      let names = same_found a.0.name b.0.name x.name y.name a.2.name b.2.name name in
      let descs = same_found a.0.desc b.0.desc a.2.desc.text b.2.desc.text a.2.desc.found b.2.desc.found (a.2.desc.kind.spelled ∙ text ∙ sym b.2.desc.kind.spelled) in
      file.1.is_class.rules.distinct_fields i j a.0 b.0 a.1 b.1 names descs

  -- so do methods
  pub one_method : (i j : ℕ) (x y : MethodShape) → slice_get s.methods i ≡ Some x → slice_get s.methods j ≡ Some y → method_key x ≡ method_key y → i ≡ j
  one_method i j x y p q key =
      let a = zip_back (IsMethodShape class.pool) class.methods s.methods states.methods i x p in
      let b = zip_back (IsMethodShape class.pool) class.methods s.methods states.methods j y q in
      let name : x.name ≡ y.name = ap (λ (k : List ℕ × List ℕ). k.0) key in
      let text : method_text x.desc ≡ method_text y.desc = ap (λ (k : List ℕ × List ℕ). k.1) key in
      let names = same_found a.0.name b.0.name x.name y.name a.2.name b.2.name name in
      let descs = same_found a.0.desc b.0.desc a.2.desc.text b.2.desc.text a.2.desc.found b.2.desc.found (a.2.desc.kind.spelled ∙ text ∙ sym b.2.desc.kind.spelled) in
      file.1.is_class.rules.distinct_methods i j a.0 b.0 a.1 b.1 names descs
