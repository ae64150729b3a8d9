-- The code attribute of what was put, and when it may be finished (JVMS 4.7.3, 4.7.4).
use Rattle.std.specs.Prelude.{◌≡◌, ◌<◌, ◌≤◌, ℕ, false, IsTrue, List, length, map, Option, None, Some, All}
use Rattle.std.specs.List.{AllByRecursion}
use Rattle.jv_types.specs.Bodies.{IsStart, rises_from}
use Rattle.jv_types.specs.declared.raw_handler.RawHandler.{RawHandler}
use Rattle.jv_types.specs.declared.instruction.Insn.{Insn}
use Rattle.jv_types.specs.declared.body.Handler.{Handler}
use Rattle.jv_types.specs.declared.frames.VType.{VType}
use Rattle.jv_types.specs.declared.frames.Frame.{Frame}
use Rattle.jv_types.specs.declared.frames.FramedBody.{FramedBody}
use Rattle.jv_pool.specs.declared.item.PoolItem.{PoolItem}
use Rattle.jv_attr.specs.declared.attr.CodeAttr.{CodeAttr}
use Rattle.jv_read.specs.Reading.{◌>>=◌}
use Rattle.jv_insn.specs.Entries.{put_all, Grows}
use Rattle.jv_insn.specs.Encoding.{insns_text, is_left_out, StandsNear, MayStand, MayEncode}
use Rattle.jv_insn.specs.Decoding.{Decodes}
use Rattle.jv_frames.specs.Types.{in_words, frame_of}
use Rattle.jv_frames.specs.Maps.{IsMade, AreMapFrames, written_frames}
use Rattle.av_asm.specs.declared.step.Step.{Step}
use Rattle.av_asm.specs.declared.step.Step.TheVariants.{Put, Open, Landed}
use Rattle.av_asm.specs.declared.step.Span.{Span}
use Rattle.av_asm.specs.Built.{Built}
use Rattle.av_asm.specs.Mapping.{IsMapped, put_maps}
use Rattle.av_asm.specs.Planning.{most_words, Plan, plan_of, plan_in, target_frames}

-- ---- what it gives

-- an entry of the exception table that catches all throwables
abbrev pub raw_of : Handler → RawHandler
raw_of handler = record { start = handler.start; end = handler.end; target = handler.target; catch = 0 }

-- The code attribute, with the pool to which are added what the instructions name, in their order, and then, where
-- a frame stands, the name of the attribute and the classes of the frames. There is none where an item finds no
-- room.
abbrev pub code_of : Plan → List PoolItem → Option (CodeAttr × List PoolItem)
code_of plan pool = do
  coded ← put_all plan.insns pool
  maps ← put_maps (target_frames plan) coded
  Some (
    record {
      max_stack = plan.max_stack;
      max_locals = plan.max_locals;
      code = insns_text coded plan.insns;
      handlers = map raw_of plan.handlers;
      attrs = maps.0;
    },
    maps.1,
  )

-- the method's code is that of what was put, with the frame put for each instruction
pub record IsFramed (built : Built) (framed : FramedBody) : Type 0 where
  pub method : framed.method ≡ built.method
  pub plan : plan_in framed ≡ plan_of built

-- the attribute, over the pool and over each pool to which that grows, decodes to the method's body
abbrev pub IsCodeOf : List PoolItem → CodeAttr → FramedBody → Type 0
IsCodeOf pool attr framed =
    (later : List PoolItem) → Grows pool later → Decodes later attr.max_stack attr.max_locals attr.code attr.handlers framed.body

-- over these pools its map has the frames at the targets, whatever the types are with which the method begins
abbrev pub HasMaps : List PoolItem → CodeAttr → FramedBody → Type 0
HasMaps pool attr framed =
    (later : List PoolItem) (entry : List VType) → Grows pool later
    → AreMapFrames later framed.body 0 entry (written_frames attr.attrs) (target_frames (plan_in framed))

-- ---- when it may be finished

-- it is no branch, or one that has landed
abbrev pub HasLanded : Step → Type 0
HasLanded (Put insn) = Unit {0}
HasLanded (Open op) = ⊥
HasLanded (Landed op number) = Unit {0}

-- The frame is that of some full map of a code of these instructions and so many local variables: it has types
-- that a map can name, each of which that isn't initialised yet is that of a `new` of the code (JVMS 4.10.1.4).
pub record IsFullFrame (max_locals : ℕ) (insns : List (ℕ × Insn)) (frame : Frame) : Type 0 where
  pub locals : List VType
  pub stack : List VType
  pub is : frame ≡ frame_of max_locals locals stack
  pub fits : length (in_words locals) ≤ max_locals
  pub locals_mapped : AllByRecursion IsMapped locals
  pub stack_mapped : AllByRecursion IsMapped stack
  pub locals_made : All (IsMade insns) locals
  pub stack_made : All (IsMade insns) stack

-- What was put may be finished over a pool: each branch has landed, and something was put where branches and
-- handlers lead; its instructions may be encoded, however long the code is; each frame at a target is that of a
-- full map; and what has to be counted fits two bytes.
pub record MayFinish (pool : List PoolItem) (built : Built) : Type 0 where
  pub landed : AllByRecursion HasLanded built.steps
  pub led : AllByRecursion (λ (span : Span). span.target < length built.steps) built.spans
  pub each : AllByRecursion (λ (row : ℕ × Insn). MayStand built.words (plan_of built).insns row.0 row.1) (plan_of built).insns
  pub whole : AllByRecursion (λ (row : ℕ × Insn). is_left_out row.1.arg ≡ false) (plan_of built).insns
  pub near : AllByRecursion (λ (row : ℕ × Insn). StandsNear pool row.1) (plan_of built).insns
  pub maps : AllByRecursion (λ (row : ℕ × Frame). IsFullFrame built.words (plan_of built).insns row.1) (target_frames (plan_of built))
  pub stack : most_words built.frames ≤ 65535
  pub words : built.words ≤ 65535

-- A method's code with its frames may be written: it may be encoded, its handlers catch all throwables, its frames
-- stand at instructions, at rising offsets, with no more words than it has for its stack, and those at targets are of
-- full maps.
pub record MayWrite (pool : List PoolItem) (framed : FramedBody) : Type 0 where
  pub encodes : MayEncode pool framed.body
  pub catches : AllByRecursion (λ (handler : Handler). handler.catch ≡ None) framed.body.handlers
  pub rising : IsTrue (rises_from 0 framed.frames)
  pub starts : AllByRecursion (λ (row : ℕ × Frame). IsStart framed.body.insns row.0) framed.frames
  pub stack : AllByRecursion (λ (row : ℕ × Frame). length row.1.stack ≤ framed.body.max_stack) framed.frames
  pub maps : AllByRecursion (λ (row : ℕ × Frame). IsFullFrame framed.body.max_locals framed.body.insns row.1) (target_frames (plan_in framed))
