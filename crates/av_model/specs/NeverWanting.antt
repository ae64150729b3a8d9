-- Frames whose words are of the kinds that their method's frames say. What stands in such a frame never wants for an operand.
use Rattle.std.specs.Prelude.{◌≤◌, ℕ, List, [], ◌∷◌, length, map}
use Rattle.jv_types.specs.declared.body.Handler.{Handler}
use Rattle.jv_types.specs.declared.frames.FramedBody.{FramedBody}
use Rattle.jv_types.specs.declared.instruction.Insn.{Insn}
use Rattle.jv_insn.specs.KindSafe.{FitsAt}
use Rattle.jv_insn.specs.Kinds.{WordKind}
use Rattle.jv_insn.specs.Leaving.{Words}
use Rattle.av_states.specs.declared.held.Held.{Held}
use Rattle.av_states.specs.declared.held.Held.TheVariants.{Ref}
use Rattle.av_model.specs.Operands.{HasOperands, kind_of_held, leave}
use Rattle.av_model.specs.Spots.{Spot, IsInsnAt, entry_locals, widest_frame}

-- the kinds of what words hold
abbrev pub kinds_held : Words Held → Words WordKind
kinds_held words = record { locals = map kind_of_held words.locals; stack = map kind_of_held words.stack }

-- The method has a frame at the spot. The spot's stack is as deep, and where the frame has a reference there is a reference
-- or null, and where it has a word of a number there is a word. No frame of the method has more local variables.
pub record HasKinds (spot : Spot) : Type 0 where
  pub fits : FitsAt spot.framed.frames spot.pc (kinds_held spot.words)
  pub wide : widest_frame spot.framed.frames ≤ length spot.words.locals

-- the spot after an instruction that gives these words and goes to this place
abbrev pub spot_after : Spot → Insn → List Held → ℕ → Spot
spot_after spot insn given to = record { framed = spot.framed; pc = to; words = leave insn given spot.words }

-- the spot in a method that is entered on these words
abbrev pub entry_spot : FramedBody → List Held → Spot
entry_spot framed words = record { framed = framed; pc = 0; words = record { locals = entry_locals framed words; stack = [] } }

-- the spot in a handler of the method, which catches an object
abbrev pub handler_spot : Spot → Handler → ℕ → Spot
handler_spot spot handler thrown = record { framed = spot.framed; pc = handler.target; words = record { locals = spot.words.locals; stack = Ref thrown ∷ [] } }

-- there is an instruction at the spot, which finds its operands
pub record IsNotWanting (spot : Spot) : Type 0 where
  pub insn : Insn
  pub stands : IsInsnAt spot insn
  pub taken : List Held
  pub has : HasOperands insn spot.words taken
