-- Types of a map and its frames, as they are put.
use Rattle.std.proofs.Common.{◌≡◌, ℕ, ◌*◌, ◌<◌, ◌≤◌, Bool, true, false, not, eqb, List, [], ◌∷◌, length, Option, Some, None, refl, sym, ap, subst, length-append, arith}
use Rattle.std.specs.Prelude.{◌||◌}
use Rattle.std.specs.List.{AllByRecursion}
use Rattle.std.proofs.lemmas.Slice.Zip.{AllZip-long}
use Rattle.jv_bytes.proofs.NumberLaws.{length-number_text}
use Rattle.jv_types.specs.declared.frames.VType.{VType, Top, Integer, Float, Long, Double, Null, UninitThis, Uninit, Class, PrimArray, Array'}
use Rattle.jv_pool.specs.declared.item.PoolItem.{PoolItem}
use Rattle.jv_pool.specs.Lookups.{names, is_class}
use Rattle.jv_attr.specs.declared.frame.MapType.{MapType}
use Rattle.jv_attr.specs.FrameText.{has_arg, type_arg_text, type_text, IsArg, is_typed, IsType, types_text}
use Rattle.jv_names.specs.Spellings.{IsTypeName}
use Rattle.jv_read.proofs.Fronts.{bind_some, given_as}
use Rattle.jv_frames.specs.Types.{is_object}
use Rattle.jv_insn.specs.Entries.{put_class, Grows}
use Rattle.av_asm.specs.Mapping.{put_each, object_text, IsMapped, map_type, put_object, put_type}
use Rattle.av_asm.proofs.RefTypes.{object_text-vtype}
use Rattle.av_read_back.specs.Fileable.{MayStandInMap}
use Rattle.av_read_back.proofs.Pools.{names_later, IsFilePool, Grown, grown_not}
use Rattle.av_read_back.proofs.Named.{class_put, type_name}
use Rattle.av_read_back.proofs.Each.{zip_second, IsOnePut, each_put}

-- ---- tags

-- a tag behind which no number stands
record IsPlainTag (tag : ℕ) : Type 0 where
  none : has_arg tag ≡ Some false
  not_object : eqb tag 7 ≡ false

top_tag : IsPlainTag 0
unfolding has_arg
top_tag = record { none = refl; not_object = refl }

integer_tag : IsPlainTag 1
unfolding has_arg
integer_tag = record { none = refl; not_object = refl }

float_tag : IsPlainTag 2
unfolding has_arg
float_tag = record { none = refl; not_object = refl }

double_tag : IsPlainTag 3
unfolding has_arg
double_tag = record { none = refl; not_object = refl }

long_tag : IsPlainTag 4
unfolding has_arg
long_tag = record { none = refl; not_object = refl }

null_tag : IsPlainTag 5
unfolding has_arg
null_tag = record { none = refl; not_object = refl }

uninit_this_tag : IsPlainTag 6
unfolding has_arg
uninit_this_tag = record { none = refl; not_object = refl }

has_index : has_arg 7 ≡ Some true
unfolding has_arg
has_index = refl

has_offset : has_arg 8 ≡ Some true
unfolding has_arg
has_offset = refl

-- ---- a type

-- a type that may be put into a map
pub record MayPutType (type : VType) : Type 0 where
  pub mapped : IsMapped type
  pub text : MayStandInMap type
  pub small : (pc : ℕ) → type ≡ Uninit pc → pc < 65536

-- what was written of a type
pub IsWritten : List PoolItem → VType → MapType → Type 0
IsWritten pool type m = IsType pool m

plain_type : (pool : List PoolItem) (tag : ℕ) → IsPlainTag tag → IsType pool (map_type tag 0)
plain_type pool tag plain = record {
  arg = subst (λ (o : Option Bool). IsArg o 0) (sym plain.none) refl;
  class = ap (λ (b : Bool). not b || names is_class pool 0) plain.not_object;
}

plain_put : (type : VType) (tag : ℕ) (old : List PoolItem) (made : MapType × List PoolItem) → IsFilePool old → IsPlainTag tag → Some (map_type tag 0, old) ≡ Some made → IsOnePut IsWritten old made.1 type made.0
unfolding IsWritten
plain_put type tag old made g plain e =
    let here : MapType × List PoolItem = (map_type tag 0, old) in
    given_as (λ (w : MapType × List PoolItem). IsOnePut IsWritten old w.1 type w.0) here made e (record { grown = grown_not old g; is = plain_type old tag plain })

uninit_put : (pc : ℕ) (old : List PoolItem) (made : MapType × List PoolItem) → IsFilePool old → pc < 65536 → Some (map_type 8 pc, old) ≡ Some made → IsOnePut IsWritten old made.1 (Uninit pc) made.0
unfolding IsWritten
uninit_put pc old made g small e =
    let here : MapType × List PoolItem = (map_type 8 pc, old) in
    let is : IsType old (map_type 8 pc) = record { arg = subst (λ (o : Option Bool). IsArg o pc) (sym has_offset) small; class = refl } in
    given_as (λ (w : MapType × List PoolItem). IsOnePut IsWritten old w.1 (Uninit pc) w.0) here made e (record { grown = grown_not old g; is = is })

object_put : (type : VType) (old : List PoolItem) (made : MapType × List PoolItem) → IsFilePool old → is_object type ≡ true → MayPutType type → put_object type old ≡ Some made → IsOnePut IsWritten old made.1 type made.0
unfolding IsWritten
object_put type old made g is may e =
    let of = may.mapped is in
    let a = bind_some (put_class (object_text type) old) (λ named. Some (map_type 7 named.0, named.1)) made e in
    let named : IsTypeName (object_text type) = subst IsTypeName (sym (object_text-vtype type of.0 of.1)) (type_name of.0 of.2) in
    let p = class_put (object_text type) old a.0 g (may.text is) named a.1 in
    let here : MapType × List PoolItem = (map_type 7 a.0.0, a.0.1) in
    let written : IsType a.0.1 (map_type 7 a.0.0) = record { arg = subst (λ (o : Option Bool). IsArg o a.0.0) (sym has_index) p.small; class = p.is } in
    given_as (λ (w : MapType × List PoolItem). IsOnePut IsWritten old w.1 type w.0) here made a.2 (record { grown = p.grown; is = written })

pub type_put : (type : VType) (old : List PoolItem) (made : MapType × List PoolItem) → IsFilePool old → MayPutType type → put_type type old ≡ Some made → IsOnePut IsWritten old made.1 type made.0
type_put Top old made g may e = plain_put Top 0 old made g top_tag e
type_put Integer old made g may e = plain_put Integer 1 old made g integer_tag e
type_put Float old made g may e = plain_put Float 2 old made g float_tag e
type_put Long old made g may e = plain_put Long 4 old made g long_tag e
type_put Double old made g may e = plain_put Double 3 old made g double_tag e
type_put Null old made g may e = plain_put Null 5 old made g null_tag e
type_put UninitThis old made g may e = plain_put UninitThis 6 old made g uninit_this_tag e
type_put (Uninit pc) old made g may e = uninit_put pc old made g (may.small pc refl) e
type_put (Class name) old made g may e = object_put (Class name) old made g refl may e
type_put (PrimArray prim) old made g may e = object_put (PrimArray prim) old made g refl may e
type_put (Array' shape items) old made g may e = object_put (Array' shape items) old made g refl may e

-- ---- it stays

typed_later : (old new : List PoolItem) (tag arg : ℕ) → Grows old new → is_typed old tag arg ≡ true → is_typed new tag arg ≡ true
typed_later old new tag arg grows e = by (eqb tag 7) e
  where
    by : (b : Bool) → (not b || names is_class old arg) ≡ true → (not b || names is_class new arg) ≡ true
    by true e = names_later is_class old new arg grows e
    by false e = refl

pub type_later : (m : MapType) (old new : List PoolItem) → Grows old new → IsType old m → IsType new m
type_later m old new grows h = record { arg = h.arg; class = typed_later old new m.tag m.arg grows h.class }

written_later : (type : VType) (m : MapType) (old new : List PoolItem) → Grows old new → IsWritten old type m → IsWritten new type m
unfolding IsWritten
written_later type m old new grows h = type_later m old new grows h

-- ---- how long it is

arg_size : (o : Option Bool) (arg : ℕ) → length (type_arg_text o arg) ≤ 2
arg_size (Some true) arg = omega (arith, length-number_text 2 arg)
arg_size (Some false) arg = omega arith
arg_size None arg = omega arith

type_size : (m : MapType) → length (type_text m) ≤ 3
type_size m = omega (arith, arg_size (has_arg m.tag) m.arg)

pub types_size : (types : List MapType) → length (types_text types) ≤ 3 * length types
types_size [] = omega arith
types_size (m ∷ types) = omega (arith, type_size m, types_size types, length-append (type_text m) (types_text types))

-- ---- types

pub record AreTypesPut (old new : List PoolItem) (types : List VType) (written : List MapType) : Type 0 where
  pub grown : Grown old new
  pub are : AllByRecursion (IsType new) written
  pub count : length written ≡ length types

pub types_put : (types : List VType) (old : List PoolItem) (made : List MapType × List PoolItem) → IsFilePool old → AllByRecursion MayPutType types → put_each put_type types old ≡ Some made → AreTypesPut old made.1 types made.0
unfolding IsWritten
types_put types old made g may e =
    let p = each_put put_type MayPutType IsWritten type_put written_later types old made g may e in
    record {
      grown = p.grown;
      are = zip_second (IsWritten made.1) (IsType made.1) (λ type m h. h) types made.0 p.are;
      count = AllZip-long (IsWritten made.1) types made.0 p.are;
    }
