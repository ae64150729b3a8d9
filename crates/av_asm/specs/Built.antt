-- What a builder of code holds.
use Rattle.std.specs.Prelude.{◌≡◌, ◌<◌, ◌≤◌, ◌^◌, ◌-◌, ℕ, List, [], ◌∷◌, ◌++◌, length, Some, min, slice_get, slice_set, not}
use Rattle.std.specs.List.{AllByRecursion}
use Rattle.jv_types.specs.declared.ids.MethodId.{MethodId}
use Rattle.jv_types.specs.declared.shapes.Shape.{Shape}
use Rattle.jv_types.specs.declared.shapes.MethodShape.{MethodShape}
use Rattle.jv_types.specs.declared.frames.Frame.{Frame}
use Rattle.jv_desc.specs.Texts.{words_of}
use Rattle.jv_resolve.specs.Members.{IsMethod}
use Rattle.jv_frames.specs.Entry.{is_static}
use Rattle.av_asm.specs.declared.step.Step.{Step}
use Rattle.av_asm.specs.declared.step.Step.TheVariants.{Open, Landed}
use Rattle.av_asm.specs.declared.step.Span.{Span}

-- what a builder holds: the instructions put, with the frame before each, and the handlers. Instructions are
-- spoken of by their numbers, from 0 on.
pub record Built : Type 0 where
  pub method : MethodId
  -- how many words the arguments take
  pub words : ℕ
  pub steps : List Step
  pub frames : List Frame
  pub spans : List Span

-- the words of the arguments of a method of the world, the receiver included (JVMS 4.3.3), and 2^32 - 1 where
-- that is less
pub record AreArgumentWords (w : List Shape) (id : MethodId) (words : ℕ) : Type 0 where
  pub method : MethodShape
  pub is_method : IsMethod w id method
  pub words_are : words ≡ min (words_of method.desc (not (is_static method))) (2 ^ 32 - 1)

-- the instructions of a handler: one or more that were put, and the one to which it leads isn't before these
pub record IsSpan (count : ℕ) (span : Span) : Type 0 where
  pub covers : span.start < span.end
  pub behind : span.end ≤ span.target
  pub within : span.target ≤ count

-- what each builder keeps: a frame for each instruction, numbers that fit 32 bits, and handlers over instructions
pub record KeepsForm (steps : List Step) (frames : List Frame) (spans : List Span) : Type 0 where
  pub each : length frames ≡ length steps
  pub few : length steps < 2 ^ 32
  pub handled : AllByRecursion (IsSpan (length steps)) spans

-- an instruction is put last, with the frame before it
abbrev pub with_step : Built → Step → Frame → Built
with_step built step frame = record built { steps = built.steps ++ step ∷ []; frames = built.frames ++ frame ∷ [] }

-- the next instruction handles what the instructions from one to below another throw
abbrev pub with_handler : Built → ℕ → ℕ → Built
with_handler built start end = record built { spans = built.spans ++ record { start = start; end = end; target = length built.steps } ∷ [] }

-- the branch of a number and an opcode leads to the next instruction
abbrev pub with_landing : Built → ℕ → ℕ → Built
with_landing built number op = record built { steps = slice_set built.steps number (Landed op (length built.steps)) }

-- the instruction of this number is a branch of this opcode that hasn't landed
abbrev pub IsBranch : List Step → ℕ → ℕ → Type 0
IsBranch steps number op = slice_get steps number ≡ Some (Open op)

-- the instruction of this number is a branch that hasn't landed
abbrev pub IsOpen : List Step → ℕ → Type 0
IsOpen steps number = (op : ℕ) × IsBranch steps number op
