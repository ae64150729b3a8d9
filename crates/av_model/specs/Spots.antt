-- Where a thread stands in a method of the application, and where it goes on (JVMS 2.5.1, 2.6).
use Rattle.std.specs.Prelude.{◌≡◌, ℕ, zero, suc, ◌-◌, ◌++◌, Bool, true, false, List, [], ◌∷◌, Option, Some, length, max, replicate, slice_get, slice_set, Contains}
use Rattle.jv_types.specs.Bodies.{IsNextStart, at_offset}
use Rattle.jv_types.specs.declared.body.Body.{Body}
use Rattle.jv_types.specs.declared.frames.Frame.{Frame}
use Rattle.jv_types.specs.declared.frames.FramedBody.{FramedBody}
use Rattle.jv_types.specs.declared.instruction.Insn.{Insn}
use Rattle.jv_insn.specs.Effects.{effect_of}
use Rattle.jv_insn.specs.Leaving.{Words}
use Rattle.av_states.specs.declared.held.Held.{Held}
use Rattle.av_states.specs.declared.held.Held.TheVariants.{Word}
use Rattle.av_states.specs.declared.state.Activation.{Activation}
use Rattle.av_states.specs.declared.state.Activation.TheVariants.{App}
use Rattle.av_states.specs.declared.state.State.{State}
use Rattle.av_model.specs.Operands.{leave}

-- a method of the application that was entered, the offset that it is at, and its words
pub record Spot : Type 0 where
  pub framed : FramedBody
  pub pc : ℕ
  pub words : Words Held

-- the frame of a spot
abbrev pub frame_of : Spot → Activation
frame_of spot = App spot.framed.method spot.pc spot.words.locals spot.words.stack

-- the frame is that of a spot in one of the methods
pub record IsAt (methods : List FramedBody) (frame : Activation) (spot : Spot) : Type 0 where
  pub given : Contains methods spot.framed
  pub frame_is : frame ≡ frame_of spot

-- the last frame of a thread is that of the spot, over these frames
pub record StandsAt (methods : List FramedBody) (state : State) (thread : ℕ) (thrown : Option ℕ) (below : List Activation) (spot : Spot) : Type 0 where
  pub given : Contains methods spot.framed
  pub place : slice_get state.threads thread ≡ Some (record { frames = below ++ frame_of spot ∷ []; thrown = thrown })

-- the instruction at a spot
abbrev pub IsInsnAt : Spot → Insn → Type 0
IsInsnAt spot insn = at_offset spot.pc spot.framed.body.insns ≡ Some insn

-- ---- the thread afterwards

abbrev pub set_thread : State → ℕ → List Activation → Option ℕ → State
set_thread state thread frames thrown = record state { threads = slice_set state.threads thread (record { frames = frames; thrown = thrown }) }

-- ---- where an instruction goes

-- the instruction goes to the place of this number: the next one is the first, where it goes on to that, and the
-- targets follow
abbrev pub GoesOnBy : Bool → Body → Insn → ℕ → ℕ → ℕ → Type 0
GoesOnBy true body insn pc zero to = IsNextStart pc body.insns to
GoesOnBy true body insn pc (suc number) to = slice_get (effect_of insn).targets number ≡ Some to
GoesOnBy false body insn pc number to = slice_get (effect_of insn).targets number ≡ Some to

abbrev pub GoesTo : Spot → Insn → ℕ → ℕ → Type 0
GoesTo spot insn branch to = GoesOnBy (effect_of insn).falls spot.framed.body insn spot.pc branch to

-- the frame after an instruction that gives these words to the stack and goes to this place
abbrev pub goes_on : Spot → Insn → List Held → ℕ → Activation
goes_on spot insn given to = let after = leave insn given spot.words in App spot.framed.method to after.locals after.stack

-- ---- a method that is entered

-- the local variables of the widest frame
abbrev pub widest_frame : List (ℕ × Frame) → ℕ
widest_frame [] = 0
widest_frame (row ∷ rows) = max (length row.1.locals) (widest_frame rows)

-- how many local variables a method has: as many as its code says, and no fewer than its frames have
abbrev pub local_count : FramedBody → ℕ
local_count framed = max framed.body.max_locals (widest_frame framed.frames)

-- the local variables of a method as it begins on these words: they come first, and the others hold no reference
abbrev pub entry_locals : FramedBody → List Held → List Held
entry_locals framed words = words ++ replicate (local_count framed - length words) Word

-- the frame of a method as it begins on these words
abbrev pub entered : FramedBody → List Held → Activation
entered framed words = App framed.method 0 (entry_locals framed words) []
