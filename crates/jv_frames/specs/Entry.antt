-- The frame as a method begins (JVMS 4.10.1.6).
use Rattle.std.specs.Prelude.{◌≡◌, ◌≤◌, ℕ, Bool, not, ◌&&◌, ◌==◌, bit_and, if◌then◌else◌, List, [], ◌∷◌, ◌++◌, length, map, Some, slice_get, codes}
use Rattle.std.specs.Str.{bytes_eq}
use Rattle.jv_types.specs.declared.ids.MethodId.{MethodId}
use Rattle.jv_types.specs.declared.shapes.Shape.{Shape}
use Rattle.jv_types.specs.declared.shapes.MethodShape.{MethodShape}
use Rattle.jv_types.specs.declared.frames.VType.{VType, UninitThis, Class}
use Rattle.jv_types.specs.declared.frames.Frame.{Frame}
use Rattle.jv_world.specs.Worlds.{object_name}
use Rattle.jv_frames.specs.Types.{desc_vtype, in_words, frame_of}

-- a static method (JVMS table 4.6-A)
abbrev pub is_static : MethodShape → Bool
is_static method = bit_and method.flags.0 8 == 8

-- a constructor of a class other than Object: its receiver isn't initialised yet
abbrev pub begins_uninit : List ℕ → MethodShape → Bool
begins_uninit class method = bytes_eq method.name (codes "<init>") && not (bytes_eq class object_name)

-- the type of the receiver, where there is one
abbrev pub receiver_types : List ℕ → MethodShape → List VType
receiver_types class method =
    if is_static method then [] else (if begins_uninit class method then UninitThis else Class class) ∷ []

-- the types of the receiver and of the parameters of a method of this class
abbrev pub entry_types : List ℕ → MethodShape → List VType
entry_types class method = receiver_types class method ++ map desc_vtype method.desc.params

-- they are those of the method of the world that the id names
pub record AreEntryTypes (w : List Shape) (id : MethodId) (types : List VType) : Type 0 where
  pub class : Shape
  pub method : MethodShape
  pub class_at : slice_get w id.class.number ≡ Some class
  pub method_at : slice_get class.methods id.index ≡ Some method
  pub are : types ≡ entry_types class.name method

-- The frame as the method begins with so many local variables: the receiver and the parameters, and Top
-- behind them, with an empty stack. There is none where they take more words than that.
pub record IsInitialFrame (w : List Shape) (id : MethodId) (max_locals : ℕ) (frame : Frame) : Type 0 where
  pub types : List VType
  pub entry : AreEntryTypes w id types
  pub fits : length (in_words types) ≤ max_locals
  pub is : frame ≡ frame_of max_locals types []
