-- Which frames a method has (JVMS 4.10.1.6): one for each instruction, so that each instruction is typed and
-- what it leaves fits where it goes. The maps are rows of offset and frame, as a stack map stands for them.
use Rattle.std.specs.Prelude.{◌≡◌, ◌≤◌, ℕ, true, false, List, [], ◌∷◌, map, Option, None, Some, Contains, codes}
use Rattle.jv_types.specs.Bodies.{at_offset, arg_targets, IsStart, IsNextStart}
use Rattle.jv_types.specs.declared.ids.MethodId.{MethodId}
use Rattle.jv_types.specs.declared.shapes.Shape.{Shape}
use Rattle.jv_types.specs.declared.instruction.Insn.{Insn}
use Rattle.jv_types.specs.declared.body.Handler.{Handler}
use Rattle.jv_types.specs.declared.body.Body.{Body}
use Rattle.jv_types.specs.declared.frames.VType.{VType, Class}
use Rattle.jv_types.specs.declared.frames.Frame.{Frame}
use Rattle.jv_types.specs.declared.frames.FramedBody.{FramedBody}
use Rattle.jv_pool.specs.declared.item.PoolItem.{PoolItem}
use Rattle.jv_attr.specs.declared.frame.MapFrame.{MapFrame}
use Rattle.jv_world.specs.Instances.{IsSubNamed}
use Rattle.jv_insn.specs.Effects.{is_end}
use Rattle.jv_insn.specs.Forms.{HasOwnOperands}
use Rattle.jv_insn.specs.KindSafe.{Covers}
use Rattle.jv_frames.specs.Assignable.{IsFrameAssignable}
use Rattle.jv_frames.specs.Entry.{AreEntryTypes, IsInitialFrame}
use Rattle.jv_frames.specs.Maps.{AreMapFrames}
use Rattle.jv_typing.specs.References.{Site}
use Rattle.jv_typing.specs.Steps.{StepTyping}

-- ---- where a frame goes

-- the instruction at an offset of a method's code
abbrev pub site_at : MethodId → Body → ℕ → Site
site_at method body pc = record { from = method.class.number; method = method; body = body; pc = pc }

-- a frame stands at an offset to which this one is assignable
abbrev pub FitsThere : List Shape → (ℕ → Frame → Type 0) → ℕ → Frame → Type 0
FitsThere w Stands pc frame = (there : Frame) × Stands pc there × IsFrameAssignable w frame there

abbrev pub throwable_name : List ℕ
throwable_name = codes "java/lang/Throwable"

-- the class that a handler catches (catch_type), Throwable where it catches all
abbrev pub caught_name : Option (List ℕ) → List ℕ
caught_name None = throwable_name
caught_name (Some name) = name

-- the frame as a handler begins: the local variables and the flag from before the instruction, and the
-- throwable alone on the stack
abbrev pub handler_frame : Frame → Handler → Frame
handler_frame frame handler = record { locals = frame.locals; stack = Class (caught_name handler.catch) ∷ []; this_uninit = frame.this_uninit }

-- a handler that covers an instruction catches throwables, and the frame as it begins fits at its target
-- (JVMS 4.10.1.6, instructionSatisfiesHandler)
pub record SatisfiesHandler (w : List Shape) (Stands : ℕ → Frame → Type 0) (frame : Frame) (handler : Handler) : Type 0 where
  pub throwable : IsSubNamed w (caught_name handler.catch) throwable_name
  pub fits : FitsThere w Stands handler.target (handler_frame frame handler)

-- What an instruction leaves fits everywhere where it goes: at the next instruction, which there is unless it
-- is a goto, a switch, a return or an athrow, at each target, and at each handler that covers it. A target needs
-- no map of its own: the JVM asks for one, and this profile for a frame there.
pub record FitsWhereItGoes (w : List Shape) (body : Body) (Stands : ℕ → Frame → Type 0) (pc : ℕ) (insn : Insn) (frame after : Frame) : Type 0 where
  pub falls : is_end insn.op ≡ false → (next : ℕ) × IsNextStart pc body.insns next × FitsThere w Stands next after
  pub jumps : (target : ℕ) → Contains (arg_targets insn.arg) target → FitsThere w Stands target after
  pub throws : (handler : Handler) → Contains body.handlers handler → Covers handler pc → SatisfiesHandler w Stands frame handler

-- ---- a table

-- the frame as the method begins fits the first one, and is it where no map stands there
pub record BeginsRight (w : List Shape) (method : MethodId) (body : Body) (maps frames : List (ℕ × Frame)) : Type 0 where
  pub initial : Frame
  pub is_initial : IsInitialFrame w method body.max_locals initial
  pub first : Frame
  pub stands : at_offset 0 frames ≡ Some first
  pub fits : IsFrameAssignable w initial first
  pub same : at_offset 0 maps ≡ None → first ≡ initial

-- An instruction has the operands of its opcode's layout, is typed on its frame, and what it leaves fits where
-- it goes. Where no map stands at the next
-- instruction the frame there is what it leaves; behind a goto, a switch, a return or an athrow a map stands,
-- or the code ends.
pub record IsTypedAt (w : List Shape) (method : MethodId) (body : Body) (maps frames : List (ℕ × Frame)) (pc : ℕ) (insn : Insn) (frame : Frame) : Type 0 where
  pub operands : HasOwnOperands insn
  pub after : Frame
  pub typing : StepTyping w (site_at method body pc) frame insn after
  pub goes : FitsWhereItGoes w body (λ place there. at_offset place frames ≡ Some there) pc insn frame after
  pub same : (next : ℕ) → is_end insn.op ≡ false → IsNextStart pc body.insns next → at_offset next maps ≡ None → at_offset next frames ≡ Some after
  pub ends : (next : ℕ) → is_end insn.op ≡ true → IsNextStart pc body.insns next → IsStart maps next

-- a method has this table of frames, by these maps
pub record IsTypeSafe (w : List Shape) (method : MethodId) (body : Body) (maps frames : List (ℕ × Frame)) : Type 0 where
  -- one frame for each instruction
  pub one_each : map (λ (row : ℕ × Frame). row.0) frames ≡ map (λ (row : ℕ × Insn). row.0) body.insns
  pub begins : BeginsRight w method body maps frames
  -- where a map stands, the frame is the map's
  pub maps_are : (pc : ℕ) (frame : Frame) → at_offset pc maps ≡ Some frame → at_offset pc frames ≡ Some frame
  pub each : (pc : ℕ) (insn : Insn) (frame : Frame) → at_offset pc body.insns ≡ Some insn → at_offset pc frames ≡ Some frame → IsTypedAt w method body maps frames pc insn frame

-- rows of offset and frame are what some stack map of a method stands for: the maps of its code
pub record AreMapsOf (w : List Shape) (method : MethodId) (body : Body) (maps : List (ℕ × Frame)) : Type 0 where
  pub pool : List PoolItem
  pub written : List MapFrame
  pub types : List VType
  pub entry : AreEntryTypes w method types
  pub frames : AreMapFrames pool body 0 types written maps

-- the code of a method with its frames, by some maps
abbrev pub TypeSafe : List Shape → FramedBody → Type 0
TypeSafe w framed =
    (maps : List (ℕ × Frame)) × AreMapsOf w framed.method framed.body maps × IsTypeSafe w framed.method framed.body maps framed.frames

-- ---- where there is none

-- A frame is forced at an offset: the initial one at 0 where no map stands, a map's, or what a typed instruction
-- leaves at the next one where no map stands.
pub data IsForced (w : List Shape) (method : MethodId) (body : Body) (maps : List (ℕ × Frame)) : ℕ → Frame → Type 0 where
  first : (pc : ℕ) (frame : Frame) → pc ≡ 0 → at_offset 0 maps ≡ None → IsInitialFrame w method body.max_locals frame → IsForced w method body maps pc frame
  by_map : (pc : ℕ) (frame : Frame) → at_offset pc maps ≡ Some frame → IsForced w method body maps pc frame
  left : (before pc : ℕ) (insn : Insn) (frame after : Frame) → IsForced w method body maps before frame → at_offset before body.insns ≡ Some insn → is_end insn.op ≡ false
      → IsNextStart before body.insns pc → at_offset pc maps ≡ None → StepTyping w (site_at method body before) frame insn after → IsForced w method body maps pc after

-- An offset at which a method has no table: at 0 there is no initial frame, or it doesn't fit the map that
-- stands there; or no frame is forced; or the instruction has no typing on it, or leaves what doesn't fit where
-- it goes; or its operands aren't of its layout, as in no code that is decoded.
pub data FailsAt (w : List Shape) (method : MethodId) (body : Body) (maps : List (ℕ × Frame)) (pc : ℕ) : Type 0 where
  no_initial : pc ≡ 0 → ((frame : Frame) → IsInitialFrame w method body.max_locals frame → ⊥) → FailsAt w method body maps pc
  unfit_initial : (initial first : Frame) → pc ≡ 0 → IsInitialFrame w method body.max_locals initial → at_offset 0 maps ≡ Some first → (IsFrameAssignable w initial first → ⊥) → FailsAt w method body maps pc
  unforced : IsStart body.insns pc → ((frame : Frame) → IsForced w method body maps pc frame → ⊥) → FailsAt w method body maps pc
  misshapen : (insn : Insn) → at_offset pc body.insns ≡ Some insn → (HasOwnOperands insn → ⊥) → FailsAt w method body maps pc
  untyped : (insn : Insn) (frame : Frame) → at_offset pc body.insns ≡ Some insn → IsForced w method body maps pc frame → ((after : Frame) → StepTyping w (site_at method body pc) frame insn after → ⊥) → FailsAt w method body maps pc
  unfit : (insn : Insn) (frame after : Frame) → at_offset pc body.insns ≡ Some insn → IsForced w method body maps pc frame → StepTyping w (site_at method body pc) frame insn after
      → (FitsWhereItGoes w body (IsForced w method body maps) pc insn frame after → ⊥) → FailsAt w method body maps pc

-- the least offset at which it has none
pub record FailsLeastAt (w : List Shape) (method : MethodId) (body : Body) (maps : List (ℕ × Frame)) (pc : ℕ) : Type 0 where
  pub fails : FailsAt w method body maps pc
  pub least : (other : ℕ) → FailsAt w method body maps other → pc ≤ other
