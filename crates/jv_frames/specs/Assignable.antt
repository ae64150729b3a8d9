-- Which verification types and frames may stand for which (JVMS 4.10.1.2, 4.10.1.4).
use Rattle.std.specs.Prelude.{◌≡◌, ℕ, ◌⊎◌, IsTrue, List}
use Rattle.std.specs.List.{AllZip}
use Rattle.jv_types.specs.declared.shapes.Shape.{Shape}
use Rattle.jv_types.specs.declared.frames.VType.{VType, Top, Null, Class, Array}
use Rattle.jv_types.specs.declared.frames.Frame.{Frame}
use Rattle.jv_world.specs.Worlds.{object_name}
use Rattle.jv_world.specs.Instances.{IsSubNamed, IsInterfaceNamed, IsArraySuper}
use Rattle.jv_frames.specs.Types.{is_array, is_object}

-- the class or interface of one name is assignable to that of the other: to its supertypes, and, whatever
-- it is, to Object and to each interface, which the verifier treats as it does Object
abbrev pub IsClassAssignable : List Shape → List ℕ → List ℕ → Type 0
IsClassAssignable w name of = IsSubNamed w name of ⊎ ((of ≡ object_name) ⊎ IsInterfaceNamed w of)

-- the first type is assignable to the second
pub data IsAssignable (w : List Shape) : VType → VType → Type 0 where
  -- a type to itself
  same : (a b : VType) → a ≡ b → IsAssignable w a b
  -- each type to Top
  to_top : (a b : VType) → b ≡ Top → IsAssignable w a b
  -- Null to each class, interface and array
  of_null : (a b : VType) → a ≡ Null → IsTrue (is_object b) → IsAssignable w a b
  -- a class or interface to another one
  of_class : (a b : VType) (name of : List ℕ) → a ≡ Class name → b ≡ Class of → IsClassAssignable w name of → IsAssignable w a b
  -- an array to Object, Cloneable and Serializable, and to no other class or interface
  of_array : (a b : VType) (of : List ℕ) → IsTrue (is_array a) → b ≡ Class of → IsArraySuper of → IsAssignable w a b
  -- an array of references to one of what its items are assignable to
  of_items : (a b item other : VType) → a ≡ Array item → b ≡ Array other → IsAssignable w item other → IsAssignable w a b

-- The first frame is assignable to the second: its types, word by word, are, their stacks are equally deep,
-- and the flag (flagThisUninit), that the receiver isn't initialised, may be gained and not lost.
pub record IsFrameAssignable (w : List Shape) (f g : Frame) : Type 0 where
  pub locals : AllZip (IsAssignable w) f.locals g.locals
  pub stack : AllZip (IsAssignable w) f.stack g.stack
  pub flag : IsTrue f.this_uninit → IsTrue g.this_uninit
