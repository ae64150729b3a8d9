-- Texts, classes and members that are put into a pool, and what instructions name.
use Rattle.std.proofs.Common.{◌≡◌, ℕ, ◌<◌, ◌≤◌, Bool, true, false, List, [], ◌∷◌, Option, Some, refl, ap, ◌∙◌, inl, inr}
use Rattle.std.specs.Prelude.{option_and_then}
use Rattle.std.specs.Option.{option_map_or}
use Rattle.std.specs.List.{AllByRecursion}
use Rattle.std.proofs.lemmas.Bool.{and_from}
use Rattle.jv_types.specs.declared.desc.Desc.{Desc}
use Rattle.jv_types.specs.declared.desc.Desc.TheVariants as descs
use Rattle.jv_types.specs.declared.desc.MethodDesc.{MethodDesc}
use Rattle.jv_types.specs.declared.desc.RefType.{RefType, Class, PrimArray, Array'}
use Rattle.jv_types.specs.declared.references.FieldRef.{FieldRef}
use Rattle.jv_types.specs.declared.references.MethodRef.{MethodRef}
use Rattle.jv_types.specs.declared.instruction.Const.TheVariants as consts
use Rattle.jv_types.specs.declared.instruction.Arg.{Arg}
use Rattle.jv_types.specs.declared.instruction.Arg.TheVariants as args
use Rattle.jv_types.specs.declared.instruction.Insn.{Insn}
use Rattle.jv_desc.specs.Texts.{desc_text, method_text, words_of, item_text, prim_letter, IsDesc, IsMethodDesc, IsRef}
use Rattle.jv_pool.specs.declared.item.PoolItem.{PoolItem}
use Rattle.jv_pool.specs.declared.item.PoolItem.TheVariants as items
use Rattle.jv_pool.specs.Lookups.{item_at, names, is_utf8, is_class, is_name_and_type, text_in, text_at, class_name_in, class_name_at}
use Rattle.jv_names.specs.Naming.{type_text}
use Rattle.jv_names.specs.Spellings.{IsFieldName, IsCalledName, IsFieldDescriptor, IsTypeName, IsMethodDescriptor}
use Rattle.jv_names.specs.PoolNames.{HasText, HasNames}
use Rattle.jv_read.specs.Reading.{◌>>=◌}
use Rattle.jv_read.proofs.Fronts.{bind_some, given_as}
use Rattle.jv_insn.specs.declared.entries.MemberKind.{MemberKind}
use Rattle.jv_insn.specs.declared.entries.MemberKind.TheVariants as kinds
use Rattle.jv_insn.specs.Entries.{member_item, method_kind, entry_of, put_item, put_class, put_pair, put_member, put_named, put_all, Grows}
use Rattle.av_read_back.specs.Fileable.{FitsPool, MayNameType, MayNameField, MayNameMethod, MayName}
use Rattle.av_read_back.proofs.Pools.{later, names_later, text_later, class_more, IsFilePool, Grown, grown_not, grown_on, MayJoin, item_joins}

-- ---- texts

-- a text stands at an index of two bytes
pub record IsTextPut (text : List ℕ) (old new : List PoolItem) (i : ℕ) : Type 0 where
  pub grown : Grown old new
  pub found : text_at new i ≡ Some text
  pub is : names is_utf8 new i ≡ true
  pub small : i < 65536

pub text_put : (text : List ℕ) (old : List PoolItem) (x : ℕ × List PoolItem) → IsFilePool old → FitsPool text → put_item (items.Utf8 text) old ≡ Some x → IsTextPut text old x.1 x.0
text_put text old x g fits e =
    let m : MayJoin old (items.Utf8 text) = record { fits = fits.spelled; linked = refl; whole = refl; named = tt; short = fits.short } in
    let j = item_joins (items.Utf8 text) old x g m e in
    record {
      grown = j.grown;
      found = ap (option_and_then text_in) j.at;
      is = ap (λ (o : Option PoolItem). option_map_or is_utf8 o false) j.at;
      small = j.small;
    }

pub text_kind : (text : List ℕ) (old new later : List PoolItem) (i : ℕ) (Kind : List ℕ → Type 0) → IsTextPut text old new i → Grows new later → Kind text → HasText later i Kind
text_kind text old new later i Kind p g k = record { text = text; found = text_later new later i text g p.found; kind = k }

-- ---- classes

-- a class stands at an index of two bytes
pub record IsClassPut (text : List ℕ) (old new : List PoolItem) (i : ℕ) : Type 0 where
  pub grown : Grown old new
  pub found : class_name_at new i ≡ Some text
  pub is : names is_class new i ≡ true
  pub small : i < 65536

pub class_put : (text : List ℕ) (old : List PoolItem) (x : ℕ × List PoolItem) → IsFilePool old → FitsPool text → IsTypeName text → put_class text old ≡ Some x → IsClassPut text old x.1 x.0
unfolding put_class
class_put text old x g fits type e =
    let a = bind_some (put_item (items.Utf8 text) old) (λ name. put_item (items.Class name.0) name.1) x e in
    let p = text_put text old a.0 g fits a.1 in
    let m : MayJoin a.0.1 (items.Class a.0.0) = record {
      fits = p.small;
      linked = p.is;
      whole = refl;
      named = record { text = text; found = p.found; kind = type };
      short = tt;
    } in
    let j = item_joins (items.Class a.0.0) a.0.1 x p.grown.good m a.2 in
    record {
      grown = grown_on old a.0.1 x.1 p.grown j.grown;
      found = ap (option_and_then (class_name_in x.1)) j.at ∙ text_later a.0.1 x.1 a.0.0 text j.grown.grows p.found;
      is = ap (λ (o : Option PoolItem). option_map_or is_class o false) j.at;
      small = j.small;
    }

pub class_later : (old new : List PoolItem) (i : ℕ) (text : List ℕ) → Grows old new → class_name_at old i ≡ Some text → class_name_at new i ≡ Some text
class_later old new i text g e = later (λ (p : List PoolItem). class_name_at p i ≡ Some text) old new (λ more. class_more old more i text e) g

-- ---- types

-- the text of a type names it
pub type_name : (type : RefType) → IsRef 255 type → IsTypeName (type_text type)
type_name (Class name) h = inl h.named
type_name (PrimArray prim) h =
    let d : IsFieldDescriptor (91 ∷ prim_letter prim ∷ []) = record { type = descs.Ref (PrimArray prim); spelled = record { valid = h; spelled = refl } } in
    inr (record { component = prim_letter prim ∷ []; begins = refl; descriptor = d })
type_name (Array' shape all) h =
    let d : IsFieldDescriptor (91 ∷ item_text all) = record { type = descs.Ref (Array' shape all); spelled = record { valid = h; spelled = refl } } in
    inr (record { component = item_text all; begins = refl; descriptor = d })

pub field_descriptor : (desc : Desc) → IsDesc desc → IsFieldDescriptor (desc_text desc)
field_descriptor desc h = record { type = desc; spelled = record { valid = h; spelled = refl } }

pub method_descriptor : (receiver : Bool) (desc : MethodDesc) → IsMethodDesc desc → words_of desc receiver ≤ 255 → IsMethodDescriptor receiver (method_text desc)
method_descriptor receiver desc h few = record { method = desc; spelled = record { valid = h; spelled = refl }; words = few }

-- ---- a name and a descriptor

record IsPairPut (name desc : List ℕ) (old new : List PoolItem) (i : ℕ) : Type 0 where
  grown : Grown old new
  first : ℕ
  second : ℕ
  found : item_at new i ≡ Some (items.NameAndType first second)
  name_found : text_at new first ≡ Some name
  desc_found : text_at new second ≡ Some desc
  is : names is_name_and_type new i ≡ true
  small : i < 65536

-- of these kinds
has_names : (name desc : List ℕ) (old new : List PoolItem) (i : ℕ) (Name Descriptor : List ℕ → Type 0) → IsPairPut name desc old new i → Name name → Descriptor desc → HasNames new i Name Descriptor
has_names name desc old new i Name Descriptor p n d = record {
  name_index = p.first;
  desc_index = p.second;
  found = p.found;
  name = record { text = name; found = p.name_found; kind = n };
  descriptor = record { text = desc; found = p.desc_found; kind = d };
}

pair_put : (name desc : List ℕ) (old : List PoolItem) (x : ℕ × List PoolItem) → IsFilePool old → FitsPool name → FitsPool desc → put_pair name desc old ≡ Some x → IsPairPut name desc old x.1 x.0
unfolding put_pair
pair_put name desc old x g fits fits_too e =
    let a = bind_some (put_item (items.Utf8 name) old) (λ first. put_item (items.Utf8 desc) first.1 >>= λ second. put_item (items.NameAndType first.0 second.0) second.1) x e in
    let b = bind_some (put_item (items.Utf8 desc) a.0.1) (λ second. put_item (items.NameAndType a.0.0 second.0) second.1) x a.2 in
    let p = text_put name old a.0 g fits a.1 in
    let q = text_put desc a.0.1 b.0 p.grown.good fits_too b.1 in
    let first : names is_utf8 b.0.1 a.0.0 ≡ true = names_later is_utf8 a.0.1 b.0.1 a.0.0 q.grown.grows p.is in
    let m : MayJoin b.0.1 (items.NameAndType a.0.0 b.0.0) = record {
      fits = (p.small, q.small);
      linked = and_from (names is_utf8 b.0.1 a.0.0) (names is_utf8 b.0.1 b.0.0) first q.is;
      whole = refl;
      named = tt;
      short = tt;
    } in
    let j = item_joins (items.NameAndType a.0.0 b.0.0) b.0.1 x q.grown.good m b.2 in
    let behind : Grown a.0.1 x.1 = grown_on a.0.1 b.0.1 x.1 q.grown j.grown in
    record {
      grown = grown_on old a.0.1 x.1 p.grown behind;
      first = a.0.0;
      second = b.0.0;
      found = j.at;
      name_found = text_later a.0.1 x.1 a.0.0 name behind.grows p.found;
      desc_found = text_later b.0.1 x.1 b.0.0 desc j.grown.grows q.found;
      is = ap (λ (o : Option PoolItem). option_map_or is_name_and_type o false) j.at;
      small = j.small;
    }

-- ---- members

-- a name and a descriptor of the member's kind
abbrev IsMemberNamed : MemberKind → List ℕ → List ℕ → Type 0
IsMemberNamed kinds.Field name desc = IsFieldName name × IsFieldDescriptor desc
IsMemberNamed kinds.Method name desc = IsCalledName name × IsMethodDescriptor false desc
IsMemberNamed kinds.InterfaceMethod name desc = IsCalledName name × IsMethodDescriptor false desc

member_joins : (kind : MemberKind) (name desc : List ℕ) (before old : List PoolItem) (class pair : ℕ) → IsMemberNamed kind name desc → class < 65536 → names is_class old class ≡ true → IsPairPut name desc before old pair
    → MayJoin old (member_item kind class pair)
member_joins kinds.Field name desc before old class pair k small is p = record {
  fits = (small, p.small);
  linked = and_from (names is_class old class) (names is_name_and_type old pair) is p.is;
  whole = refl;
  named = has_names name desc before old pair IsFieldName IsFieldDescriptor p k.0 k.1;
  short = tt;
}
member_joins kinds.Method name desc before old class pair k small is p = record {
  fits = (small, p.small);
  linked = and_from (names is_class old class) (names is_name_and_type old pair) is p.is;
  whole = refl;
  named = has_names name desc before old pair IsCalledName (IsMethodDescriptor false) p k.0 k.1;
  short = tt;
}
member_joins kinds.InterfaceMethod name desc before old class pair k small is p = record {
  fits = (small, p.small);
  linked = and_from (names is_class old class) (names is_name_and_type old pair) is p.is;
  whole = refl;
  named = has_names name desc before old pair IsCalledName (IsMethodDescriptor false) p k.0 k.1;
  short = tt;
}

member_put : (kind : MemberKind) (class name desc : List ℕ) (old : List PoolItem) (x : ℕ × List PoolItem) → IsFilePool old → FitsPool class → IsTypeName class → FitsPool name → FitsPool desc → IsMemberNamed kind name desc
    → put_member kind class name desc old ≡ Some x → Grown old x.1
unfolding put_member
member_put kind class name desc old x g class_fits type name_fits desc_fits k e =
    let a = bind_some (put_class class old) (λ owner. put_pair name desc owner.1 >>= λ pair. put_item (member_item kind owner.0 pair.0) pair.1) x e in
    let b = bind_some (put_pair name desc a.0.1) (λ pair. put_item (member_item kind a.0.0 pair.0) pair.1) x a.2 in
    let p = class_put class old a.0 g class_fits type a.1 in
    let q = pair_put name desc a.0.1 b.0 p.grown.good name_fits desc_fits b.1 in
    let m = member_joins kind name desc a.0.1 b.0.1 a.0.0 b.0.0 k p.small (names_later is_class a.0.1 b.0.1 a.0.0 q.grown.grows p.is) q in
    let j = item_joins (member_item kind a.0.0 b.0.0) b.0.1 x q.grown.good m b.2 in
    grown_on old a.0.1 x.1 p.grown (grown_on a.0.1 b.0.1 x.1 q.grown j.grown)

-- ---- what operands name

type_put : (type : RefType) (old : List PoolItem) (x : ℕ × List PoolItem) → IsFilePool old → MayNameType type → put_class (type_text type) old ≡ Some x → Grown old x.1
type_put type old x g may e = (class_put (type_text type) old x g may.text (type_name type may.formed) e).grown

plain_put : (item : PoolItem) (old : List PoolItem) (x : ℕ × List PoolItem) → IsFilePool old → MayJoin old item → put_item item old ≡ Some x → Grown old x.1
plain_put item old x g m e = (item_joins item old x g m e).grown

nothing_put : (old : List PoolItem) (x : ℕ × List PoolItem) → IsFilePool old → Some (0, old) ≡ Some x → Grown old x.1
nothing_put old x g e =
    let made : ℕ × List PoolItem = (0, old) in
    given_as (λ (y : ℕ × List PoolItem). Grown old y.1) made x e (grown_not old g)

field_put : (field : FieldRef) (old : List PoolItem) (x : ℕ × List PoolItem) → IsFilePool old → MayNameField field → put_member kinds.Field field.class field.name (desc_text field.desc) old ≡ Some x → Grown old x.1
field_put field old x g may e =
    member_put kinds.Field field.class field.name (desc_text field.desc) old x g may.class.fits (inl may.class.name) may.name_text may.desc_text (may.name, field_descriptor field.desc may.formed) e

method_named : (interface : Bool) (name desc : List ℕ) → IsCalledName name → IsMethodDescriptor false desc → IsMemberNamed (method_kind interface) name desc
method_named true name desc n d = (n, d)
method_named false name desc n d = (n, d)

method_put : (method : MethodRef) (old : List PoolItem) (x : ℕ × List PoolItem) → IsFilePool old → MayNameMethod method
    → put_member (method_kind method.interface) (type_text method.class) method.name (method_text method.desc) old ≡ Some x → Grown old x.1
method_put method old x g may e =
    member_put (method_kind method.interface) (type_text method.class) method.name (method_text method.desc) old x g may.class.text (type_name method.class may.class.formed) may.name_text may.desc_text
    (method_named method.interface method.name (method_text method.desc) may.name (method_descriptor false method.desc may.formed may.few_words)) e

arg_put : (arg : Arg) (old : List PoolItem) (x : ℕ × List PoolItem) → IsFilePool old → MayName arg → put_named (entry_of arg) old ≡ Some x → Grown old x.1
arg_put (args.Constant (consts.Int value)) old x g may e = plain_put (items.Integer value) old x g (record { fits = may; linked = refl; whole = refl; named = tt; short = tt }) e
arg_put (args.Constant (consts.Float bits)) old x g may e = plain_put (items.Float bits) old x g (record { fits = may; linked = refl; whole = refl; named = tt; short = tt }) e
arg_put (args.Constant (consts.Long value)) old x g may e = plain_put (items.Long value) old x g (record { fits = may; linked = refl; whole = refl; named = tt; short = tt }) e
arg_put (args.Constant (consts.Double bits)) old x g may e = plain_put (items.Double bits) old x g (record { fits = may; linked = refl; whole = refl; named = tt; short = tt }) e
arg_put (args.Constant (consts.Class type)) old x g may e = type_put type old x g may e
arg_put (args.Constant consts.Text) old x g may e = nothing_put old x g e
arg_put (args.Constant consts.Handle) old x g may e = nothing_put old x g e
arg_put (args.Constant consts.MethodKind) old x g may e = nothing_put old x g e
arg_put (args.Class type) old x g may e = type_put type old x g may e
arg_put (args.Field field) old x g may e = field_put field old x g may e
arg_put (args.Method method) old x g may e = method_put method old x g may e
arg_put (args.Multi type dims) old x g may e = type_put type old x g may e
arg_put _ old x g may e = nothing_put old x g e

-- what instructions name is put into the pool
pub all_put : (rows : List (ℕ × Insn)) (old new : List PoolItem) → IsFilePool old → AllByRecursion (λ (row : ℕ × Insn). MayName row.1.arg) rows → put_all rows old ≡ Some new → Grown old new
unfolding put_all
all_put [] old new g may e = given_as (λ (p : List PoolItem). Grown old p) old new e (grown_not old g)
all_put (row ∷ rows) old new g may e =
    let a = bind_some (put_named (entry_of row.1.arg) old) (λ named. put_all rows named.1) new e in
    let p = arg_put row.1.arg old a.0 g may.0 a.1 in
    grown_on old a.0.1 new p (all_put rows a.0.1 new p.good may.1 a.2)
