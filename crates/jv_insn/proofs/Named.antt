-- What stands at the place of an entry is named by its index.
use Rattle.std.proofs.Common.{◌≡◌, ℕ, Bool, true, false, List, Some, refl, ap, subst, ◌∙◌}
use Rattle.std.specs.Prelude.{option_and_then}
use Rattle.jv_types.specs.declared.desc.RefType.{RefType}
use Rattle.jv_types.specs.declared.references.FieldRef.{FieldRef}
use Rattle.jv_types.specs.declared.references.MethodRef.{MethodRef}
use Rattle.jv_types.specs.declared.instruction.Const.{Const}
use Rattle.jv_types.specs.declared.instruction.Const.TheVariants as consts
use Rattle.jv_types.specs.declared.instruction.Arg.TheVariants as args
use Rattle.jv_desc.specs.Texts.{desc_text, method_text}
use Rattle.jv_pool.specs.declared.item.PoolItem.{PoolItem}
use Rattle.jv_pool.specs.declared.item.PoolItem.TheVariants as items
use Rattle.jv_pool.specs.Lookups.{item_at, names, is_utf8, text_at, class_name_in, class_name_at, name_and_type_in, name_and_type_at}
use Rattle.jv_pool.specs.Adding.{place_of}
use Rattle.jv_read.specs.Reading.{◌>>=◌}
use Rattle.jv_pool.proofs.AddingLaws.{place_found}
use Rattle.jv_read.proofs.Fronts.{bind_some}
use Rattle.jv_names.proofs.NamedOnce.{one_text}
use Rattle.jv_insn.specs.declared.entries.MemberKind.{MemberKind}
use Rattle.jv_insn.specs.declared.entries.MemberKind.TheVariants as kinds
use Rattle.jv_names.specs.Naming.{type_text, IsTypeText, NamesType, texts_of, texts_at, field_in, method_in, NamesField, NamesMethod}
use Rattle.jv_insn.specs.Entries.{member_item, method_kind, const_entry, class_place, pair_place, member_place, arg_place}
use Rattle.jv_insn.specs.Encoding.{is_left_out}
use Rattle.jv_insn.specs.Meanings.{NamesConst}

-- ---- texts, classes and pairs

text_named : (pool : List PoolItem) (text : List ℕ) (i : ℕ) → place_of pool (items.Utf8 text) ≡ Some i → (text_at pool i ≡ Some text) × (names is_utf8 pool i ≡ true)
text_named pool text i e = let at = place_found pool (items.Utf8 text) i e in rw at (refl, refl)

pub class_named : (pool : List PoolItem) (text : List ℕ) (i : ℕ) → class_place pool text ≡ Some i → class_name_at pool i ≡ Some text
unfolding class_place
class_named pool text i e =
    let n = bind_some (place_of pool (items.Utf8 text)) (λ name. place_of pool (items.Class name)) i e in
    let at = place_found pool (items.Class n.0) i n.2 in
    let name = text_named pool text n.0 n.1 in
    ap (option_and_then (class_name_in pool)) at ∙ name.0

pub pair_named : (pool : List PoolItem) (name desc : List ℕ) (i : ℕ) → pair_place pool name desc ≡ Some i → texts_at pool i ≡ Some (name, desc)
unfolding pair_place
pair_named pool name desc i e =
    let a = bind_some (place_of pool (items.Utf8 name)) (λ first. place_of pool (items.Utf8 desc) >>= λ second. place_of pool (items.NameAndType first second)) i e in
    let b = bind_some (place_of pool (items.Utf8 desc)) (λ second. place_of pool (items.NameAndType a.0 second)) i a.2 in
    let at = place_found pool (items.NameAndType a.0 b.0) i b.2 in
    let first = text_named pool name a.0 a.1 in
    let second = text_named pool desc b.0 b.1 in
    let pair : name_and_type_at pool i ≡ Some (a.0, b.0) = ap (option_and_then (name_and_type_in pool)) at ∙ rw (first.1, second.1) refl in
    ap (option_and_then (texts_of pool)) pair ∙ rw (first.0, second.0) refl

-- ---- types

-- a type that is named somewhere is named at its place
pub type_named : (pool : List PoolItem) (i : ℕ) (type : RefType) (old : List PoolItem) (k : ℕ) → NamesType old k type → class_place pool (type_text type) ≡ Some i → NamesType pool i type
type_named pool i type old k h e = record {
  text = type_text type;
  found = class_named pool (type_text type) i e;
  spelled = subst (λ (t : List ℕ). IsTypeText t type) (one_text h.text type h.spelled) h.spelled;
}

-- ---- members

-- the parts of a member
record HasParts (pool : List PoolItem) (kind : MemberKind) (class name desc : List ℕ) (i : ℕ) : Type 0 where
  owner : ℕ
  pair : ℕ
  class_is : class_place pool class ≡ Some owner
  texts : texts_at pool pair ≡ Some (name, desc)
  item : item_at pool i ≡ Some (member_item kind owner pair)

has_parts : (pool : List PoolItem) (kind : MemberKind) (class name desc : List ℕ) (i : ℕ) → member_place pool kind class name desc ≡ Some i → HasParts pool kind class name desc i
unfolding member_place
has_parts pool kind class name desc i e =
    let a = bind_some (class_place pool class) (λ owner. pair_place pool name desc >>= λ pair. place_of pool (member_item kind owner pair)) i e in
    let b = bind_some (pair_place pool name desc) (λ pair. place_of pool (member_item kind a.0 pair)) i a.2 in
    record {
      owner = a.0;
      pair = b.0;
      class_is = a.1;
      texts = pair_named pool name desc b.0 b.1;
      item = place_found pool (member_item kind a.0 b.0) i b.2;
    }

pub field_named : (pool : List PoolItem) (i : ℕ) (field : FieldRef) (old : List PoolItem) (k : ℕ) → NamesField old k field → member_place pool kinds.Field field.class field.name (desc_text field.desc) ≡ Some i → NamesField pool i field
field_named pool i field old k h e =
    let p = has_parts pool kinds.Field field.class field.name (desc_text field.desc) i e in
    record {
      class = p.owner;
      pair = p.pair;
      desc = desc_text field.desc;
      item = ap (option_and_then field_in) p.item;
      class_is = record { found = class_named pool field.class p.owner p.class_is; is_name = h.class_is.is_name };
      texts = p.texts;
      spelled = record { valid = h.spelled.valid; spelled = refl };
    }

method_item : (interface : Bool) (class pair : ℕ) → method_in (member_item (method_kind interface) class pair) ≡ Some (interface, class, pair)
method_item true class pair = refl
method_item false class pair = refl

pub method_named : (pool : List PoolItem) (i : ℕ) (method : MethodRef) (old : List PoolItem) (k : ℕ) → NamesMethod old k method
    → member_place pool (method_kind method.interface) (type_text method.class) method.name (method_text method.desc) ≡ Some i → NamesMethod pool i method
method_named pool i method old k h e =
    let p = has_parts pool (method_kind method.interface) (type_text method.class) method.name (method_text method.desc) i e in
    record {
      class = p.owner;
      pair = p.pair;
      desc = method_text method.desc;
      item = ap (option_and_then method_in) p.item ∙ method_item method.interface p.owner p.pair;
      class_is = type_named pool p.owner method.class old h.class h.class_is p.class_is;
      texts = p.texts;
      spelled = record { valid = h.spelled.valid; spelled = refl };
    }

-- ---- constants

pub const_named : (pool : List PoolItem) (i : ℕ) (const : Const) (old : List PoolItem) (k : ℕ) → NamesConst old k const → is_left_out (args.Constant const) ≡ false → arg_place pool (const_entry const) ≡ Some i → NamesConst pool i const
const_named pool i (consts.Int value) old k h whole e = place_found pool (items.Integer value) i e
const_named pool i (consts.Float bits) old k h whole e = place_found pool (items.Float bits) i e
const_named pool i (consts.Long value) old k h whole e = place_found pool (items.Long value) i e
const_named pool i (consts.Double bits) old k h whole e = place_found pool (items.Double bits) i e
const_named pool i (consts.Class type) old k h whole e = type_named pool i type old k h e
const_named pool i consts.Text old k h whole e = absurd cc
const_named pool i consts.Handle old k h whole e = absurd cc
const_named pool i consts.MethodKind old k h whole e = absurd cc
