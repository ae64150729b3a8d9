-- The frames that are forced at the instructions of a code, one after the other.
use Rattle.std.specs.Prelude.{◌≡◌, ℕ, false, List, [], ◌∷◌, ◌++◌, drop, Option, None, Some}
use Rattle.jv_types.specs.Bodies.{at_offset, IsStart, IsNextStart}
use Rattle.jv_types.specs.declared.ids.MethodId.{MethodId}
use Rattle.jv_types.specs.declared.shapes.Shape.{Shape}
use Rattle.jv_types.specs.declared.instruction.Insn.{Insn}
use Rattle.jv_types.specs.declared.body.Body.{Body}
use Rattle.jv_types.specs.declared.frames.Frame.{Frame}
use Rattle.jv_insn.specs.Effects.{is_end}
use Rattle.jv_typing.specs.Steps.{StepTyping}
use Rattle.jv_typing.specs.TypeSafe.{site_at, IsForced}

-- the frame at an instruction: the map's where one stands there, or else what comes from before
abbrev pub forced_here : Option Frame → Option Frame → Option Frame
forced_here None left = left
forced_here (Some frame) left = Some frame

-- a row for it, where there is one
abbrev pub with_frame : ℕ → Option Frame → List (ℕ × Frame) → List (ℕ × Frame)
with_frame pc None rows = rows
with_frame pc (Some frame) rows = (pc, frame) ∷ rows

-- What an instruction leaves is the frame at this offset: the next instruction stands there, the opcode goes on
-- to it, and it has no map.
pub record IsHandedOn (body : Body) (maps : List (ℕ × Frame)) (pc op next : ℕ) : Type 0 where
  pub goes : is_end op ≡ false
  pub after : IsNextStart pc body.insns next
  pub no_map : at_offset next maps ≡ None

-- what an instruction on a frame leaves at the next one: nothing where it is an end or has no typing. Where a map
-- stands there nothing is asked.
abbrev pub IsLeft : List Shape → MethodId → Body → List (ℕ × Frame) → ℕ → Insn → Option Frame → Option Frame → Type 0
IsLeft w method body maps pc insn here None =
    (next : ℕ) (frame after : Frame) → IsHandedOn body maps pc insn.op next → here ≡ Some frame → StepTyping w (site_at method body pc) frame insn after → ⊥
IsLeft w method body maps pc insn here (Some after) = (frame : Frame) × (here ≡ Some frame) × (is_end insn.op ≡ false) × StepTyping w (site_at method body pc) frame insn after

-- the frames at these instructions, where this comes from before
abbrev pub AreForcedFrom : List Shape → MethodId → Body → List (ℕ × Frame) → Option Frame → List (ℕ × Insn) → List (ℕ × Frame) → Type 0
AreForcedFrom w method body maps left [] rows = rows ≡ []
AreForcedFrom w method body maps left (row ∷ insns) rows =
    (next : Option Frame) × (rest : List (ℕ × Frame))
    × IsLeft w method body maps row.0 row.1 (forced_here (at_offset row.0 maps) left) next
    × AreForcedFrom w method body maps next insns rest
    × (rows ≡ with_frame row.0 (forced_here (at_offset row.0 maps) left) rest)

-- the frames at the first instructions were made: what is left gives the others
pub record ForcesOn (w : List Shape) (method : MethodId) (body : Body) (maps : List (ℕ × Frame)) (begun left : Option Frame) (rows : List (ℕ × Frame)) (n : ℕ) : Type 0 where
  pub makes : (rest : List (ℕ × Frame)) → AreForcedFrom w method body maps left (drop n body.insns) rest → AreForcedFrom w method body maps begun body.insns (rows ++ rest)

-- the frames of a table are exactly those that are forced, and each stands at an instruction
pub record AreForced (w : List Shape) (method : MethodId) (body : Body) (maps rows : List (ℕ × Frame)) : Type 0 where
  pub forth : (pc : ℕ) (frame : Frame) → at_offset pc rows ≡ Some frame → IsForced w method body maps pc frame
  pub back : (pc : ℕ) (frame : Frame) → IsForced w method body maps pc frame → at_offset pc rows ≡ Some frame
  pub starts : (pc : ℕ) → IsStart rows pc → IsStart body.insns pc
