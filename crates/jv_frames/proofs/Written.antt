-- Types and frames that are written as the standard says are types and frames.
use Rattle.std.proofs.Common.{◌≡◌, ℕ, ◌-◌, ◌⊎◌, Bool, true, false, IsTrue, cond, List, [], ◌∷◌, ◌++◌, length, take, drop, Option, Some, None, slice_get, refl, sym, ap, ◌∙◌, subst, inl, inr, arith}
use Rattle.std.specs.Prelude.{◌==◌, MatchOption, option_map, option_and_then}
use Rattle.std.specs.Option.{option_map_or}
use Rattle.std.specs.List.{AllZip, AllByRecursion}
use Rattle.std.specs.Ordering.{nat_cmp, is_eq}
use Rattle.std.proofs.lemmas.List.{take-append-drop, length-drop}
use Rattle.std.proofs.lemmas.Bool.{false≢true}
use Rattle.std.proofs.lemmas.Bool.Decides.{nat_tests}
use Rattle.jv_lists.proofs.Places.{each_at}
use Rattle.jv_table.specs.Rows.{row_of}
use Rattle.jv_table.specs.ClassRows.{type_tag_rows}
use Rattle.jv_table.specs.declared.class_tables.TypeRow.{TypeRow}
use Rattle.jv_table.specs.declared.class_tables.FrameGroup.{FrameGroup}
use Rattle.jv_table.specs.declared.class_tables.FrameGroup.TheVariants.{Same, SameOne, SameOneExtended, Chop, SameExtended, Append, Full}
use Rattle.jv_types.specs.declared.desc.PrimType.TheVariants.{Boolean, Char, Float, Double, Byte, Short, Int, Long}
use Rattle.jv_types.specs.declared.desc.RefType.{RefType, Class, PrimArray, Array'}
use Rattle.jv_types.specs.declared.desc.Desc.{Desc}
use Rattle.jv_types.specs.declared.desc.Desc.TheVariants as descs
use Rattle.jv_types.specs.declared.frames.VType.{VType}
use Rattle.jv_types.specs.declared.frames.VType as types
use Rattle.jv_desc.specs.Texts.{IsFieldText}
use Rattle.jv_pool.specs.declared.item.PoolItem.{PoolItem}
use Rattle.jv_pool.specs.declared.item.PoolItem.TheVariants as items
use Rattle.jv_pool.specs.Lookups.{item_at, names, is_class, class_name_at, class_name_in}
use Rattle.jv_names.specs.Spellings.{IsTypeName}
use Rattle.jv_names.specs.PoolNames.{IsNamedItem, IsNamedPool}
use Rattle.jv_attr.specs.declared.frame.MapType.{MapType}
use Rattle.jv_attr.specs.declared.frame.MapFrame.{MapFrame}
use Rattle.jv_attr.specs.FrameText.{has_arg, group_of, IsArg, is_typed, IsType, IsFrame, HasParts}
use Rattle.jv_names.specs.Naming.{IsTypeText, NamesType}
use Rattle.jv_frames.specs.Types.{ref_vtype}
use Rattle.jv_frames.specs.Maps.{plain_type, IsNumbered, object, uninit, IsTypeOf, HasLocalsToChopIn, HasLocalsToChop, AreLocalsIn, HasTypes}

-- ---- what a class of the pool names

-- the item of an index keeps the rules on names
named_item : (pool : List PoolItem) (i : ℕ) (item : PoolItem) → IsNamedPool pool → item_at pool i ≡ Some item → IsNamedItem pool item
named_item pool i item named at = by_zero (i == 0) at
  where
    by_zero : (b : Bool) → cond b None (slice_get pool (i - 1)) ≡ Some item → IsNamedItem pool item
    by_zero true e = absurd cc
    by_zero false e = each_at (IsNamedItem pool) pool (i - 1) item named e

is_class_item : (item : PoolItem) → is_class item ≡ true → (name : ℕ) × (item ≡ items.Class name)
is_class_item (items.Class name) e = (name, refl)
is_class_item (items.Utf8 a) e = absurd cc
is_class_item (items.Integer a) e = absurd cc
is_class_item (items.Float a) e = absurd cc
is_class_item (items.Long a) e = absurd cc
is_class_item (items.Double a) e = absurd cc
is_class_item (items.Text a) e = absurd cc
is_class_item (items.Field a b) e = absurd cc
is_class_item (items.Method a b) e = absurd cc
is_class_item (items.InterfaceMethod a b) e = absurd cc
is_class_item (items.NameAndType a b) e = absurd cc
is_class_item (items.MethodHandle a b) e = absurd cc
is_class_item (items.MethodType a) e = absurd cc
is_class_item (items.InvokeDynamic a b) e = absurd cc
is_class_item items.Hole e = absurd cc

class_item : (pool : List PoolItem) (i : ℕ) → IsTrue (names is_class pool i) → (name : ℕ) × (item_at pool i ≡ Some (items.Class name))
class_item pool i named = by_item (item_at pool i) refl named
  where
    by_item : (o : Option PoolItem) → item_at pool i ≡ o → IsTrue (option_map_or is_class o false) → (name : ℕ) × (item_at pool i ≡ Some (items.Class name))
    by_item None e h = absurd (false≢true h)
    by_item (Some item) e h = let class = is_class_item item h in (class.0, e ∙ ap Some class.1)

same_head : (a b : ℕ) (xs ys : List ℕ) → a ∷ xs ≡ b ∷ ys → a ≡ b
same_head a b xs ys e = cc

-- a descriptor that begins with a bracket is that of an array
array_text : (text component : List ℕ) (desc : Desc) → text ≡ 91 ∷ component → IsFieldText text desc → (of : RefType) × IsTypeText text of
array_text text component (descs.Prim Boolean) begins h = absurd (omega (arith, same_head 91 90 component _ (sym begins ∙ h.spelled)))
array_text text component (descs.Prim Char) begins h = absurd (omega (arith, same_head 91 67 component _ (sym begins ∙ h.spelled)))
array_text text component (descs.Prim Float) begins h = absurd (omega (arith, same_head 91 70 component _ (sym begins ∙ h.spelled)))
array_text text component (descs.Prim Double) begins h = absurd (omega (arith, same_head 91 68 component _ (sym begins ∙ h.spelled)))
array_text text component (descs.Prim Byte) begins h = absurd (omega (arith, same_head 91 66 component _ (sym begins ∙ h.spelled)))
array_text text component (descs.Prim Short) begins h = absurd (omega (arith, same_head 91 83 component _ (sym begins ∙ h.spelled)))
array_text text component (descs.Prim Int) begins h = absurd (omega (arith, same_head 91 73 component _ (sym begins ∙ h.spelled)))
array_text text component (descs.Prim Long) begins h = absurd (omega (arith, same_head 91 74 component _ (sym begins ∙ h.spelled)))
array_text text component (descs.Ref (Class name)) begins h = absurd (omega (arith, same_head 91 76 component _ (sym begins ∙ h.spelled)))
array_text text component (descs.Ref (PrimArray prim)) begins h = (PrimArray prim, h)
array_text text component (descs.Ref (Array' shape all)) begins h = (Array' shape all, h)

type_text : (text : List ℕ) → IsTypeName text → (of : RefType) × IsTypeText text of
type_text text (inl name) = (Class text, (refl, name))
type_text text (inr array) = array_text text array.component array.descriptor.type array.begins array.descriptor.spelled

class_named : (pool : List PoolItem) (i : ℕ) → IsNamedPool pool → IsTrue (names is_class pool i) → (of : RefType) × NamesType pool i of
class_named pool i named is =
    let class = class_item pool i is in
    let text = named_item pool i (items.Class class.0) named class.1 in
    let found : class_name_at pool i ≡ Some text.text = ap (option_and_then (class_name_in pool)) class.1 ∙ text.found in
    let of = type_text text.text text.kind in
    (of.0, record { text = text.text; found = found; spelled = of.1 })

-- ---- tags

-- the key is that of one of the rows
abbrev KeyIn : {R : Type 0} → ℕ → List (ℕ × R) → Type 0
KeyIn key [] = ⊥
KeyIn key (row ∷ rows) = (key ≡ row.0) ⊎ KeyIn key rows

key_in : {R : Type 0} (key : ℕ) (rows : List (ℕ × R)) (r : R) → row_of nat_cmp key rows ≡ Some r → KeyIn key rows
key_in key [] r e = absurd cc
key_in {R} key (row ∷ rows) r e = by_head (is_eq (nat_cmp key row.0)) refl e (λ h. key_in key rows r h)
  where
    by_head : (b : Bool) → is_eq (nat_cmp key row.0) ≡ b → cond b (Some row.1) (row_of nat_cmp key rows) ≡ Some r → (row_of nat_cmp key rows ≡ Some r → KeyIn key rows) → KeyIn key (row ∷ rows)
    by_head true h e more = inl (grind (arith, nat_tests))
    by_head false h e more = inr (more e)

tag_key : (tag : ℕ) (arg : ℕ) → IsArg (has_arg tag) arg → KeyIn tag type_tag_rows
unfolding has_arg
tag_key tag arg is = by_row (row_of nat_cmp tag type_tag_rows) refl is
  where
    by_row : (o : Option TypeRow) → row_of nat_cmp tag type_tag_rows ≡ o → IsArg (option_map (λ (row : TypeRow). row.arg) o) arg → KeyIn tag type_tag_rows
    by_row None e h = absurd h
    by_row (Some row) e h = key_in tag type_tag_rows row e

-- ---- written types

plain_exists : (pool : List PoolItem) (t : MapType) (tag : ℕ) (v : VType) → t.tag ≡ tag → plain_type tag ≡ Some v → (type : VType) × IsTypeOf pool t type
plain_exists pool t tag v e is =
    (v, subst (λ (o : Option VType). MatchOption o (IsNumbered pool t v) (λ plain. v ≡ plain)) (sym (ap plain_type e ∙ is)) refl)

numbered_exists : (pool : List PoolItem) (t : MapType) (tag : ℕ) (v : VType) → t.tag ≡ tag → plain_type tag ≡ None → IsNumbered pool t v → (type : VType) × IsTypeOf pool t type
numbered_exists pool t tag v e none is =
    (v, subst (λ (o : Option VType). MatchOption o (IsNumbered pool t v) (λ plain. v ≡ plain)) (sym (ap plain_type e ∙ none)) is)

object_exists : (pool : List PoolItem) (t : MapType) → IsNamedPool pool → IsType pool t → t.tag ≡ 7 → (type : VType) × IsTypeOf pool t type
object_exists pool t named is e =
    let of = class_named pool t.arg named (subst (λ (n : ℕ). IsTrue (is_typed pool n t.arg)) e is.class) in
    numbered_exists pool t 7 (ref_vtype of.0) e refl (object of.0 e of.1 refl)

type_exists : (pool : List PoolItem) (t : MapType) → IsNamedPool pool → IsType pool t → (type : VType) × IsTypeOf pool t type
type_exists pool t named is = by_key (tag_key t.tag t.arg is.arg)
  where
    by_key : KeyIn t.tag type_tag_rows → (type : VType) × IsTypeOf pool t type
    by_key (inl e) = plain_exists pool t 0 types.Top e refl
    by_key (inr (inl e)) = plain_exists pool t 1 types.Integer e refl
    by_key (inr (inr (inl e))) = plain_exists pool t 2 types.Float e refl
    by_key (inr (inr (inr (inl e)))) = plain_exists pool t 3 types.Double e refl
    by_key (inr (inr (inr (inr (inl e))))) = plain_exists pool t 4 types.Long e refl
    by_key (inr (inr (inr (inr (inr (inl e)))))) = plain_exists pool t 5 types.Null e refl
    by_key (inr (inr (inr (inr (inr (inr (inl e))))))) = plain_exists pool t 6 types.UninitThis e refl
    by_key (inr (inr (inr (inr (inr (inr (inr (inl e)))))))) = object_exists pool t named is e
    by_key (inr (inr (inr (inr (inr (inr (inr (inr (inl e))))))))) = numbered_exists pool t 8 (types.Uninit t.arg) e refl (uninit e refl)
    by_key (inr (inr (inr (inr (inr (inr (inr (inr (inr h))))))))) = absurd h

types_exist : (pool : List PoolItem) (written : List MapType) → IsNamedPool pool → AllByRecursion (IsType pool) written → (made : List VType) × AllZip (IsTypeOf pool) written made
types_exist pool [] named all = ([], tt)
types_exist pool (t ∷ written) named all =
    let first = type_exists pool t named all.0 in
    let rest = types_exist pool written named all.1 in
    (first.0 ∷ rest.0, (first.1, rest.1))

-- ---- written frames

locals_exist : (pool : List PoolItem) (before : List VType) (f : MapFrame) (g : Option FrameGroup) → HasParts g f → HasLocalsToChopIn g before f
    → (more : List VType) → AllZip (IsTypeOf pool) f.locals more → (locals : List VType) × AreLocalsIn g pool before f locals
locals_exist pool before f None parts enough more zip = absurd parts
locals_exist pool before f (Some Same) parts enough more zip = (before, refl)
locals_exist pool before f (Some SameOne) parts enough more zip = (before, refl)
locals_exist pool before f (Some SameOneExtended) parts enough more zip = (before, refl)
locals_exist pool before f (Some SameExtended) parts enough more zip = (before, refl)
locals_exist pool before f (Some Chop) parts enough more zip =
    let left : ℕ = length before - (251 - f.kind) in
    let last : length (drop left before) ≡ 251 - f.kind = omega (arith, length-drop left before) in
    (take left before, (drop left before, sym (take-append-drop left before), last))
locals_exist pool before f (Some Append) parts enough more zip = (before ++ more, (more, zip, refl))
locals_exist pool before f (Some Full) parts enough more zip = (more, zip)

pub frame_exists : (pool : List PoolItem) (before : List VType) (f : MapFrame) → IsNamedPool pool → IsFrame pool f → HasLocalsToChop before f
    → (locals : List VType) × (stack : List VType) × HasTypes pool before f locals stack
frame_exists pool before f named is enough =
    let more = types_exist pool f.locals named is.locals in
    let stack = types_exist pool f.stack named is.stack in
    let locals = locals_exist pool before f (group_of f.kind) is.parts enough more.0 more.1 in
    (locals.0, stack.0, record { locals_are = locals.1; stack_is = stack.1 })
