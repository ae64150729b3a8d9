-- What an instruction makes of a frame in general (JVMS 4.10.1.4): what it pops, what it pushes, and what
-- becomes of an object's type as its constructor is called.
use Rattle.std.specs.Prelude.{◌≡◌, ◌≢◌, ◌≤◌, ℕ, ◌⊎◌, List, ◌∷◌, ◌++◌, length}
use Rattle.std.specs.List.{AllZip}
use Rattle.jv_table.specs.declared.code_tables.Cell.{Cell}
use Rattle.jv_types.specs.declared.shapes.Shape.{Shape}
use Rattle.jv_types.specs.declared.frames.VType.{VType}
use Rattle.jv_types.specs.declared.frames.Frame.{Frame}
use Rattle.jv_insn.specs.Kinds.{EndsWithCells}
use Rattle.jv_frames.specs.Types.{in_words}
use Rattle.jv_frames.specs.Assignable.{IsAssignable}

-- Values that are assignable to these types stand at the top of a stack, and hold the cells (JVMS 4.10.1.4,
-- canPop). Where any reference will do, initialised or not, the type is Top: the cell asks for a reference.
pub record CanPop (w : List Shape) (cells : List Cell) (wanted stack : List VType) : Type 0 where
  pub takes : EndsWithCells cells stack
  pub fits : AllZip (IsAssignable w) takes.top (in_words wanted)

-- Values of these cells that are assignable to the types are popped, and values of the others pushed; the stack
-- has room, and the local variables and the flag stay (JVMS 4.10.1.4, validTypeTransition).
pub record IsTransition (w : List Shape) (max_stack : ℕ) (cells : List Cell) (wanted given : List VType) (frame after : Frame) : Type 0 where
  pub pops : CanPop w cells wanted frame.stack
  pub stack : after.stack ≡ pops.takes.below ++ in_words given
  pub room : length after.stack ≤ max_stack
  pub locals : after.locals ≡ frame.locals
  pub flag : after.this_uninit ≡ frame.this_uninit

-- a type is another one in place of this one, or stays where it isn't this one
abbrev pub IsReplaced : VType → VType → VType → VType → Type 0
IsReplaced old new before after = ((before ≡ old) × (after ≡ new)) ⊎ ((before ≢ old) × (after ≡ before))

-- each of these types is another one in place of this one (JVMS 4.10.1.9, substitute)
abbrev pub AreReplaced : VType → VType → List VType → List VType → Type 0
AreReplaced old new before after = AllZip (IsReplaced old new) before after

-- a word of a stack below so many others
pub record StandsBelow (count : ℕ) (stack : List VType) (word : VType) : Type 0 where
  pub below : List VType
  pub above : List VType
  pub whole : stack ≡ below ++ word ∷ above
  pub are : length above ≡ count
