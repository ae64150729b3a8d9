-- What is analysed, and its program points: instructions with the frames before them.
use Rattle.std.specs.Prelude.{◌≡◌, ◌⊎◌, ℕ, IsTrue, List, length, Some, Contains}
use Rattle.jv_types.specs.Bodies.{at_offset, IsNextStart}
use Rattle.jv_types.specs.declared.fact.CallFrom.{CallFrom}
use Rattle.jv_types.specs.declared.fact.CallFrom.TheVariants as origins
use Rattle.jv_types.specs.declared.frames.Frame.{Frame}
use Rattle.jv_types.specs.declared.frames.FramedBody.{FramedBody}
use Rattle.jv_types.specs.declared.frames.VType.{VType}
use Rattle.jv_types.specs.declared.ids.MethodId.{MethodId}
use Rattle.jv_types.specs.declared.instruction.Insn.{Insn}
use Rattle.jv_types.specs.declared.place.Place.{Place}
use Rattle.jv_types.specs.declared.place.Place.TheVariants as places
use Rattle.jv_types.specs.declared.shapes.Shape.{Shape}
use Rattle.jv_insn.specs.Effects.{effect_of}
use Rattle.jv_insn.specs.Kinds.{is_reference}
use Rattle.jv_insn.specs.KindSafe.{KindSafe}
use Rattle.jv_insn.specs.Leaving.{Place as Word, AtLocal, AtStack, Words, word_at, words_below}
use Rattle.av_conditions.specs.Conditions.{IsStart, MeetConditions}
use Rattle.av_conditions.specs.StandIn.{HasStandIn}

-- ---- the program

-- a world of application and stand-in, the methods whose code is given, and the method main
pub record Program : Type 0 where
  pub world : List Shape
  pub methods : List FramedBody
  pub start : MethodId

-- What is asked of a program before it is analysed: its methods are different ones of its world, whose references are
-- right and whose frames fit; the world has the core classes and those of the stand-in; and main may be called.
pub record IsAnalysable (p : Program) : Type 0 where
  pub conditions : MeetConditions p.world p.methods
  pub safe : KindSafe p.world p.methods
  pub stand_in : HasStandIn p.world
  pub start : IsStart p.world p.methods p.start

-- the method is one whose code is given
abbrev pub IsGiven : Program → MethodId → Type 0
IsGiven p m = (framed : FramedBody) × Contains p.methods framed × (framed.method ≡ m)

-- ---- program points

-- an instruction of a method, with the frame before it
pub record Point : Type 0 where
  pub framed : FramedBody
  pub pc : ℕ
  pub insn : Insn
  pub frame : Frame

-- it is one of a method whose code is given
pub record IsPoint (p : Program) (at : Point) : Type 0 where
  pub given : Contains p.methods at.framed
  pub insn_stands : at_offset at.pc at.framed.body.insns ≡ Some at.insn
  pub frame_stands : at_offset at.pc at.framed.frames ≡ Some at.frame

-- the method of a program point
abbrev pub method_of : Point → MethodId
method_of at = at.framed.method

-- how many words stand on the stack before the instruction
abbrev pub depth_of : Point → ℕ
depth_of at = length at.frame.stack

-- the lowest word of the stack that the instruction takes; the lowest that it gives stands there afterwards
abbrev pub lowest_word : Point → ℕ
lowest_word at = words_below at.insn (depth_of at)

-- the instruction goes to the one at this offset: the next one, or a jump target
abbrev pub GoesTo : Point → ℕ → Type 0
GoesTo at pc =
    (IsTrue (effect_of at.insn).falls × IsNextStart at.pc at.framed.body.insns pc) ⊎ Contains (effect_of at.insn).targets pc

-- ---- where references stand in frames

-- the place of a word of a method's frame
abbrev pub place_of : MethodId → ℕ → Word → Place
place_of m pc (AtLocal word) = places.Local m pc word
place_of m pc (AtStack word) = places.Stack m pc word

-- the types of a frame's words
abbrev pub types_of : Frame → Words VType
types_of frame = record { locals = frame.locals; stack = frame.stack }

-- The frame before the instruction at this offset types the word as a reference, initialised or not. Null counts
-- as one too, though no object is null. Facts speak of such words alone.
pub record IsSlot (framed : FramedBody) (pc : ℕ) (word : Word) : Type 0 where
  pub frame : Frame
  pub stands : at_offset pc framed.frames ≡ Some frame
  pub type : VType
  pub typed : word_at (types_of frame) word ≡ Some type
  pub reference : IsTrue (is_reference type)

-- the place is that of a word of the stack before the instruction
abbrev pub stack_place : Point → ℕ → Place
stack_place at word = places.Stack (method_of at) at.pc word

-- the place is that of the word that the instruction pushes, before the next one, which has a reference there
pub record IsPushed (at : Point) (place : Place) : Type 0 where
  pub next : ℕ
  pub follows : IsNextStart at.pc at.framed.body.insns next
  pub slot : IsSlot at.framed next (AtStack (lowest_word at))
  pub is : place ≡ places.Stack (method_of at) next (lowest_word at)

-- the place is that of a local variable of a method as it begins, whose code is given and has a reference there
pub record IsEntryLocal (p : Program) (t : MethodId) (local : ℕ) (place : Place) : Type 0 where
  pub framed : FramedBody
  pub given : Contains p.methods framed
  pub of_method : framed.method ≡ t
  pub slot : IsSlot framed 0 (AtLocal local)
  pub is : place ≡ places.Local t 0 local

-- ---- origins of calls

-- the instruction of a program point, as the origin of a call
abbrev pub site_of : Point → CallFrom
site_of at = origins.Site (method_of at) at.pc
