-- What an index of the pool names is one thing.
use Rattle.std.proofs.Common.{◌≡◌, ℕ, Bool, true, List, ◌∷◌, Option, Some, sym, ap, subst, ◌∙◌}
use Rattle.std.specs.Prelude.{option_and_then}
use Rattle.jv_types.specs.NameForms.{is_class_name}
use Rattle.jv_types.specs.declared.desc.RefType.{RefType, Class, PrimArray, Array'}
use Rattle.jv_types.specs.declared.desc.Desc.{Desc}
use Rattle.jv_types.specs.declared.desc.Desc.TheVariants as descs
use Rattle.jv_types.specs.declared.desc.MethodDesc.{MethodDesc}
use Rattle.jv_types.specs.declared.references.FieldRef.{FieldRef}
use Rattle.jv_types.specs.declared.references.MethodRef.{MethodRef}
use Rattle.jv_desc.specs.Texts.{IsFieldText, IsMethodText}
use Rattle.jv_desc.proofs.Agreement.{one_field, one_method}
use Rattle.jv_pool.specs.declared.item.PoolItem.{PoolItem}
use Rattle.jv_pool.specs.Lookups.{item_at, class_name_at}
use Rattle.jv_read.proofs.Fronts.{some_is}
use Rattle.jv_names.specs.Naming.{IsTypeText, type_text, NamesType, NamesClass, texts_at, field_in, method_in, NamesField, NamesMethod}

-- what was given twice is one value
pub given_twice : {A : Type 0} (o : Option A) (x y : A) → o ≡ Some x → o ≡ Some y → x ≡ y
given_twice o x y e f = some_is x y (sym e ∙ f)

-- ---- classes

-- a name of a class is no text of an array
pub name_is_no_array : (text : List ℕ) (rest : List ℕ) → is_class_name text ≡ true → text ≡ 91 ∷ rest → ⊥
name_is_no_array text rest name e = let named : is_class_name (91 ∷ rest) ≡ true = ap is_class_name (sym e) ∙ name in absurd cc

-- the type inside a descriptor
same_type : (t u : RefType) → descs.Ref t ≡ descs.Ref u → t ≡ u
same_type t u e = cc

pub one_type_text : (text : List ℕ) (t u : RefType) → IsTypeText text t → IsTypeText text u → t ≡ u
one_type_text text (Class a) (Class b) h k = cc
one_type_text text (Class a) (PrimArray q) h k = absurd (name_is_no_array a _ h.1 (sym h.0 ∙ k.spelled))
one_type_text text (Class a) (Array' shape all) h k = absurd (name_is_no_array a _ h.1 (sym h.0 ∙ k.spelled))
one_type_text text (PrimArray p) (Class b) h k = absurd (name_is_no_array b _ k.1 (sym k.0 ∙ h.spelled))
one_type_text text (Array' shape all) (Class b) h k = absurd (name_is_no_array b _ k.1 (sym k.0 ∙ h.spelled))
one_type_text text (PrimArray p) (PrimArray q) h k = same_type (PrimArray p) (PrimArray q) (one_field text (descs.Ref (PrimArray p)) (descs.Ref (PrimArray q)) h k)
one_type_text text (PrimArray p) (Array' shape all) h k = same_type (PrimArray p) (Array' shape all) (one_field text (descs.Ref (PrimArray p)) (descs.Ref (Array' shape all)) h k)
one_type_text text (Array' shape all) (PrimArray q) h k = same_type (Array' shape all) (PrimArray q) (one_field text (descs.Ref (Array' shape all)) (descs.Ref (PrimArray q)) h k)
one_type_text text (Array' shape all) (Array' other others) h k = same_type (Array' shape all) (Array' other others) (one_field text (descs.Ref (Array' shape all)) (descs.Ref (Array' other others)) h k)

pub one_type : (pool : List PoolItem) (index : ℕ) (t u : RefType) → NamesType pool index t → NamesType pool index u → t ≡ u
one_type pool index t u h k =
    let same = given_twice (class_name_at pool index) h.text k.text h.found k.found in
    one_type_text k.text t u (subst (λ (text : List ℕ). IsTypeText text t) same h.spelled) k.spelled

pub one_class : (pool : List PoolItem) (index : ℕ) (a b : List ℕ) → NamesClass pool index a → NamesClass pool index b → a ≡ b
one_class pool index a b h k = given_twice (class_name_at pool index) a b h.found k.found

-- ---- members

pub one_field_ref : (pool : List PoolItem) (index : ℕ) (x y : FieldRef) → NamesField pool index x → NamesField pool index y → x ≡ y
one_field_ref pool index x y h k =
    let item = given_twice (option_and_then field_in (item_at pool index)) (h.class, h.pair) (k.class, k.pair) h.item k.item in
    let class : h.class ≡ k.class = ap (λ (p : ℕ × ℕ). p.0) item in
    let pair : h.pair ≡ k.pair = ap (λ (p : ℕ × ℕ). p.1) item in
    let named = one_class pool k.class x.class y.class (subst (λ (i : ℕ). NamesClass pool i x.class) class h.class_is) k.class_is in
    let texts = given_twice (texts_at pool k.pair) (x.name, h.desc) (y.name, k.desc) (ap (texts_at pool) (sym pair) ∙ h.texts) k.texts in
    let name : x.name ≡ y.name = ap (λ (p : List ℕ × List ℕ). p.0) texts in
    let desc : h.desc ≡ k.desc = ap (λ (p : List ℕ × List ℕ). p.1) texts in
    let type = one_field k.desc x.desc y.desc (subst (λ (d : List ℕ). IsFieldText d x.desc) desc h.spelled) k.spelled in
    ap (λ (c : List ℕ). record { class = c; name = x.name; desc = x.desc }) named ∙ ap (λ (n : List ℕ). record { class = y.class; name = n; desc = x.desc }) name ∙ ap (λ (d : Desc). record { class = y.class; name = y.name; desc = d }) type

pub one_method_ref : (pool : List PoolItem) (index : ℕ) (x y : MethodRef) → NamesMethod pool index x → NamesMethod pool index y → x ≡ y
one_method_ref pool index x y h k =
    let item = given_twice (option_and_then method_in (item_at pool index)) (x.interface, h.class, h.pair) (y.interface, k.class, k.pair) h.item k.item in
    let interface : x.interface ≡ y.interface = ap (λ (p : Bool × ℕ × ℕ). p.0) item in
    let class : h.class ≡ k.class = ap (λ (p : Bool × ℕ × ℕ). p.1) item in
    let pair : h.pair ≡ k.pair = ap (λ (p : Bool × ℕ × ℕ). p.2) item in
    let named = one_type pool k.class x.class y.class (subst (λ (i : ℕ). NamesType pool i x.class) class h.class_is) k.class_is in
    let texts = given_twice (texts_at pool k.pair) (x.name, h.desc) (y.name, k.desc) (ap (texts_at pool) (sym pair) ∙ h.texts) k.texts in
    let name : x.name ≡ y.name = ap (λ (p : List ℕ × List ℕ). p.0) texts in
    let desc : h.desc ≡ k.desc = ap (λ (p : List ℕ × List ℕ). p.1) texts in
    let type = one_method k.desc x.desc y.desc (subst (λ (d : List ℕ). IsMethodText d x.desc) desc h.spelled) k.spelled in
    ap (λ (c : RefType). record { class = c; name = x.name; desc = x.desc; interface = x.interface }) named
    ∙ ap (λ (n : List ℕ). record { class = y.class; name = n; desc = x.desc; interface = x.interface }) name
    ∙ ap (λ (d : MethodDesc). record { class = y.class; name = y.name; desc = d; interface = x.interface }) type
    ∙ ap (λ (i : Bool). record { class = y.class; name = y.name; desc = y.desc; interface = i }) interface

-- the class of a method that is named
pub method_class : (pool : List PoolItem) (index : ℕ) (interface : Bool) (class pair : ℕ) (m : MethodRef) → option_and_then method_in (item_at pool index) ≡ Some (interface, class, pair) → NamesMethod pool index m → NamesType pool class m.class
method_class pool index interface class pair m e h =
    let item = given_twice (option_and_then method_in (item_at pool index)) (m.interface, h.class, h.pair) (interface, class, pair) h.item e in
    let same : h.class ≡ class = ap (λ (p : Bool × ℕ × ℕ). p.1) item in
    subst (λ (i : ℕ). NamesType pool i m.class) same h.class_is

-- a type has one text
pub one_text : (text : List ℕ) (type : RefType) → IsTypeText text type → text ≡ type_text type
one_text text (Class name) h = h.0
one_text text (PrimArray prim) h = h.spelled
one_text text (Array' shape all) h = h.spelled
