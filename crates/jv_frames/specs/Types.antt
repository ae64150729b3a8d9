-- Verification types: their kinds, the words that they take, and those of descriptors (JVMS 4.10.1.2, 4.10.1.4).
use Rattle.std.specs.Prelude.{ℕ, ◌-◌, Bool, true, false, List, [], ◌∷◌, ◌++◌, length, replicate}
use Rattle.std.specs.List.{flat_map, list_any}
use Rattle.jv_types.specs.declared.desc.PrimType.TheVariants as prims
use Rattle.jv_types.specs.declared.desc.RefType.{RefType, Row_of-RefType, end_of-RefType, more_of-RefType}
use Rattle.jv_types.specs.declared.desc.RefType as refs
use Rattle.jv_types.specs.declared.desc.Desc.{Desc}
use Rattle.jv_types.specs.declared.desc.Desc.TheVariants as descs
use Rattle.jv_types.specs.declared.frames.VType.{VType, Top, Integer, Float, Long, Double, Null, UninitThis, Uninit, Class, PrimArray, Array, Array'}
use Rattle.jv_types.specs.declared.frames.Frame.{Frame}

-- ---- kinds

-- the type of an array
abbrev pub is_array : VType → Bool
is_array Top = false
is_array Integer = false
is_array Float = false
is_array Long = false
is_array Double = false
is_array Null = false
is_array UninitThis = false
is_array (Uninit pc) = false
is_array (Class name) = false
is_array (PrimArray prim) = true
is_array (Array' shape items) = true

-- the type of a class, an interface or an array
abbrev pub is_object : VType → Bool
is_object Top = false
is_object Integer = false
is_object Float = false
is_object Long = false
is_object Double = false
is_object Null = false
is_object UninitThis = false
is_object (Uninit pc) = false
is_object (Class name) = true
is_object (PrimArray prim) = true
is_object (Array' shape items) = true

-- a receiver that isn't initialised yet
abbrev pub is_uninit_this : VType → Bool
is_uninit_this UninitThis = true
is_uninit_this _ = false

-- one of the types is that of such a receiver
abbrev pub has_uninit_this : List VType → Bool
has_uninit_this types = list_any is_uninit_this types

-- ---- words

-- the words of a value of a type: one of category 2, a long or double, is followed by Top
abbrev pub type_words : VType → List VType
type_words Long = Long ∷ Top ∷ []
type_words Double = Double ∷ Top ∷ []
type_words type = type ∷ []

abbrev pub in_words : List VType → List VType
in_words types = flat_map type_words types

-- the words, and Top for each local variable behind them
abbrev pub padded : ℕ → List VType → List VType
padded max_locals words = words ++ replicate (max_locals - length words) Top

-- The frame of a method with so many local variables that has these types of local variables and of stack
-- items, each once, the topmost last. Its flag, the standard's flagThisUninit, is set exactly where a receiver that isn't initialised is among
-- those of the local variables.
abbrev pub frame_of : ℕ → List VType → List VType → Frame
frame_of max_locals locals stack = record {
  locals = padded max_locals (in_words locals);
  stack = in_words stack;
  this_uninit = has_uninit_this locals;
}

-- ---- descriptors

-- the type of a class, an interface or an array
abbrev mutual
  pub ref_vtype : RefType → VType
  ref_vtype (refs.Class name) = Class name
  ref_vtype (refs.PrimArray prim) = PrimArray prim
  ref_vtype (refs.Array' shape items) = items_vtype items

  pub items_vtype : {m : _} → Row_of-RefType m → VType
  items_vtype end_of-RefType = Top
  items_vtype (more_of-RefType item rest) = Array (ref_vtype item)

-- the type of a value of a descriptor: an int for each primitive type that is computed with as one
abbrev pub desc_vtype : Desc → VType
desc_vtype (descs.Prim prims.Float) = Float
desc_vtype (descs.Prim prims.Long) = Long
desc_vtype (descs.Prim prims.Double) = Double
desc_vtype (descs.Prim _) = Integer
desc_vtype (descs.Ref type) = ref_vtype type
