-- What the frames of a method have in common, whatever its instructions are: each long and double has its
-- second word, and each array of references has references as its items.
use Rattle.std.specs.Prelude.{Bool, true, false, ◌&&◌, not, IsTrue, if◌then◌else◌, List, [], ◌∷◌}
use Rattle.jv_types.specs.declared.frames.VType.{VType, Top, Integer, Float, Long, Double, Null, UninitThis, Uninit, Class, PrimArray, Array', Row_of-VType, end_of-VType, more_of-VType}
use Rattle.jv_types.specs.declared.frames.Frame.{Frame}
use Rattle.jv_insn.specs.Kinds.{is_reference, is_wide}
use Rattle.jv_typing.specs.Typing.{is_top}

-- the items of an array of references are references, and those of its items
abbrev mutual
  pub holds_references : VType → Bool
  holds_references Top = true
  holds_references Integer = true
  holds_references Float = true
  holds_references Long = true
  holds_references Double = true
  holds_references Null = true
  holds_references UninitThis = true
  holds_references (Uninit pc) = true
  holds_references (Class name) = true
  holds_references (PrimArray prim) = true
  holds_references (Array' shape items) = item_holds_references items

  pub item_holds_references : {m : _} → Row_of-VType m → Bool
  item_holds_references end_of-VType = true
  item_holds_references (more_of-VType item rest) = is_reference item && holds_references item

-- Words of a frame, where the word before them is the first of two or isn't: Top stands behind each long and
-- double, and the arrays hold references (JVMS 4.10.1.4).
abbrev pub are_formed : Bool → List VType → Bool
are_formed second [] = not second
are_formed second (type ∷ types) = ((if second then is_top type else true) && holds_references type) && are_formed (is_wide type) types

-- the words of a frame are so
pub record IsFormed (frame : Frame) : Type 0 where
  pub locals : IsTrue (are_formed false frame.locals)
  pub stack : IsTrue (are_formed false frame.stack)
