-- Full frames of a stack map, as they are written (JVMS 4.7.4), and the pool to which their classes are added.
use Rattle.std.specs.Prelude.{◌≡◌, ℕ, ◌+◌, ◌-◌, Bool, true, false, List, [], ◌∷◌, Option, Some, None, option_map, codes}
use Rattle.std.specs.Option.{option_map_or}
use Rattle.std.specs.declared.convert.Infallible.{Infallible as NoCode}
use Rattle.jv_types.specs.declared.desc.RefType.{RefType}
use Rattle.jv_types.specs.declared.desc.RefType as refs
use Rattle.jv_types.specs.declared.frames.VType.{VType, Top, Integer, Float, Long, Double, Null, UninitThis, Uninit, Class, PrimArray, Array', Row_of-VType, end_of-VType, more_of-VType}
use Rattle.jv_types.specs.declared.frames.Frame.{Frame}
use Rattle.jv_desc.specs.Texts.{IsRef}
use Rattle.jv_pool.specs.declared.item.PoolItem.{PoolItem}
use Rattle.jv_pool.specs.declared.item.PoolItem.TheVariants.{Utf8}
use Rattle.jv_attr.specs.declared.attr.Attr.{Attr}
use Rattle.jv_attr.specs.declared.attr.AttrBody.TheVariants.{Maps}
use Rattle.jv_attr.specs.declared.frame.MapType.{MapType}
use Rattle.jv_attr.specs.declared.frame.MapFrame.{MapFrame}
use Rattle.jv_read.specs.Reading.{◌>>=◌}
use Rattle.jv_names.specs.Naming.{type_text}
use Rattle.jv_frames.specs.Types.{ref_vtype, is_object}
use Rattle.jv_insn.specs.Entries.{put_item, put_class}

-- ---- each with the pool that the one before left

-- what is written for each of these, each with the pool that the one before left, and the pool after all
abbrev pub put_each : {A B : Type 0} → (A → List PoolItem → Option (B × List PoolItem)) → List A → List PoolItem → Option (List B × List PoolItem)
put_each one [] pool = Some ([], pool)
put_each one (x ∷ xs) pool = do
  first ← one x pool
  more ← put_each one xs first.1
  Some (first.0 ∷ more.0, more.1)

-- ---- a type

-- the class or array type that a verification type is
abbrev mutual
  pub ref_of : VType → Option RefType
  ref_of Top = None
  ref_of Integer = None
  ref_of Float = None
  ref_of Long = None
  ref_of Double = None
  ref_of Null = None
  ref_of UninitThis = None
  ref_of (Uninit pc) = None
  ref_of (Class name) = Some (refs.Class name)
  ref_of (PrimArray prim) = Some (refs.PrimArray prim)
  ref_of (Array' shape items) = option_map refs.Array (items_ref items)

  pub items_ref : {m : _} → Row_of-VType m → Option RefType
  items_ref end_of-VType = None
  items_ref (more_of-VType item rest) = ref_of item

-- the text of its class item
abbrev pub object_text : VType → List ℕ
object_text type = option_map_or type_text (ref_of type) []

-- a type that a map can name: of a class or array type it is one with a name, of at most 255 dimensions
abbrev pub IsMapped : VType → Type 0
IsMapped type = is_object type ≡ true → (of : RefType) × (type ≡ ref_vtype of) × IsRef 255 of

-- a written type: its tag, and the number behind it, 0 where none is written
abbrev pub map_type : ℕ → ℕ → MapType
map_type tag arg = record { tag = tag; arg = arg }

-- a class or array type, by the index of its class
abbrev pub put_object : VType → List PoolItem → Option (MapType × List PoolItem)
put_object type pool = do
  named ← put_class (object_text type) pool
  Some (map_type 7 named.0, named.1)

-- a type as it is written (JVMS 4.7.4)
abbrev pub put_type : VType → List PoolItem → Option (MapType × List PoolItem)
put_type Top pool = Some (map_type 0 0, pool)
put_type Integer pool = Some (map_type 1 0, pool)
put_type Float pool = Some (map_type 2 0, pool)
put_type Double pool = Some (map_type 3 0, pool)
put_type Long pool = Some (map_type 4 0, pool)
put_type Null pool = Some (map_type 5 0, pool)
put_type UninitThis pool = Some (map_type 6 0, pool)
put_type (Uninit pc) pool = Some (map_type 8 pc, pool)
put_type (Class name) pool = put_object (Class name) pool
put_type (PrimArray prim) pool = put_object (PrimArray prim) pool
put_type (Array' shape items) pool = put_object (Array' shape items) pool

-- ---- a frame

-- a type whose values take two words
abbrev pub is_wide : VType → Bool
is_wide Long = true
is_wide Double = true
is_wide _ = false

-- the types of values that take these words, each once. The first word is the second one of the value before, or
-- it isn't.
abbrev pub values_from : Bool → List VType → List VType
values_from second [] = []
values_from true (word ∷ words) = values_from false words
values_from false (word ∷ words) = word ∷ values_from (is_wide word) words

abbrev pub values_of : List VType → List VType
values_of words = values_from false words

-- a full frame that stands so far behind the place from which it is counted: its local variables and then its
-- stack items
abbrev pub put_frame : ℕ × Frame → List PoolItem → Option (MapFrame × List PoolItem)
put_frame row pool = do
  locals ← put_each put_type (values_of row.1.locals) pool
  stack ← put_each put_type (values_of row.1.stack) locals.1
  Some (record { kind = 255; delta = row.0; locals = locals.0; stack = stack.0 }, stack.1)

-- how far each frame stands behind the one before, and the first from a place on, the standard's offset_delta
abbrev pub deltas_from : ℕ → List (ℕ × Frame) → List (ℕ × Frame)
deltas_from base [] = []
deltas_from base (row ∷ rows) = (row.0 - base, row.1) ∷ deltas_from (row.0 + 1) rows

-- ---- a map

-- the attributes of a code that has these frames, with their offsets: a StackMapTable, or none without a frame
abbrev pub put_maps : List (ℕ × Frame) → List PoolItem → Option (List (Attr NoCode) × List PoolItem)
put_maps [] pool = Some ([], pool)
put_maps (row ∷ rows) pool = do
  name ← put_item (Utf8 (codes "StackMapTable")) pool
  frames ← put_each put_frame (deltas_from 0 (row ∷ rows)) name.1
  Some (record { name = name.0; body = Maps frames.0 } ∷ [], frames.1)
