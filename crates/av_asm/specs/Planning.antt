-- The code for which a builder's instructions stand.
use Rattle.std.specs.Prelude.{ℕ, ◌+◌, ◌==◌, Bool, false, List, [], ◌∷◌, ◌++◌, length, map, max, slice_get, unwrap_or, None}
use Rattle.std.specs.List.{zip, filter, flat_map, list_any}
use Rattle.jv_types.specs.Bodies.{arg_targets}
use Rattle.jv_types.specs.declared.instruction.Insn.{Insn}
use Rattle.jv_types.specs.declared.instruction.Arg.TheVariants as args
use Rattle.jv_types.specs.declared.body.Handler.{Handler}
use Rattle.jv_types.specs.declared.frames.Frame.{Frame}
use Rattle.jv_types.specs.declared.frames.FramedBody.{FramedBody}
use Rattle.jv_insn.specs.Encoding.{insn_size}
use Rattle.av_asm.specs.declared.step.Step.{Step}
use Rattle.av_asm.specs.declared.step.Step.TheVariants.{Put, Open, Landed}
use Rattle.av_asm.specs.declared.step.Span.{Span}
use Rattle.av_asm.specs.Built.{Built}

-- ---- offsets

-- the offset of an instruction by its number, among those of all
abbrev pub start_at : List ℕ → ℕ → ℕ
start_at starts number = unwrap_or (slice_get starts number) 0

-- a branch to an offset
abbrev pub jump_to : ℕ → ℕ → Insn
jump_to op target = record { op = op; wide = false; arg = args.Jump target }

-- an instruction, where all start at these offsets
abbrev pub insn_of : List ℕ → Step → Insn
insn_of starts (Put insn) = insn
insn_of starts (Open op) = jump_to op 0
insn_of starts (Landed op number) = jump_to op (start_at starts number)

-- how many bytes it takes at an offset. That of a branch doesn't depend on where it leads.
abbrev pub step_size : ℕ → Step → ℕ
step_size pc step = insn_size pc (insn_of [] step)

-- where each instruction starts, from an offset on, and last where the code ends
abbrev pub starts_from : ℕ → List Step → List ℕ
starts_from pc [] = pc ∷ []
starts_from pc (step ∷ steps) = pc ∷ starts_from (pc + step_size pc step) steps

-- where the code ends
abbrev pub end_from : ℕ → List Step → ℕ
end_from pc [] = pc
end_from pc (step ∷ steps) = end_from (pc + step_size pc step) steps

-- ---- the parts of a code

-- each instruction with the offset at which it starts
abbrev pub placed_insn : List ℕ → ℕ × Step → ℕ × Insn
placed_insn starts row = (row.0, insn_of starts row.1)

abbrev pub insns_of : List ℕ → List Step → List (ℕ × Insn)
insns_of starts steps = map (placed_insn starts) (zip starts steps)

-- a handler of all throwables, from its first instruction to below its end
abbrev pub handler_of : List ℕ → Span → Handler
handler_of starts span = record {
  start = start_at starts span.start;
  end = start_at starts span.end;
  target = start_at starts span.target;
  catch = None;
}

-- the greatest number of words on a stack
abbrev pub most_words : List Frame → ℕ
most_words [] = 0
most_words (frame ∷ frames) = max (length frame.stack) (most_words frames)

-- a code with the frame before each instruction
pub record Plan : Type 0 where
  pub max_stack : ℕ
  pub max_locals : ℕ
  pub length : ℕ
  pub insns : List (ℕ × Insn)
  pub handlers : List Handler
  pub frames : List (ℕ × Frame)

-- the code of what was put, which has no local variables beside the arguments
abbrev pub plan_of : Built → Plan
plan_of built =
    let starts = starts_from 0 built.steps in record {
      max_stack = most_words built.frames;
      max_locals = built.words;
      length = end_from 0 built.steps;
      insns = insns_of starts built.steps;
      handlers = map (handler_of starts) built.spans;
      frames = zip starts built.frames;
    }

-- the code of a method with its frames
abbrev pub plan_in : FramedBody → Plan
plan_in framed = record {
  max_stack = framed.body.max_stack;
  max_locals = framed.body.max_locals;
  length = framed.body.length;
  insns = framed.body.insns;
  handlers = framed.body.handlers;
  frames = framed.frames;
}

-- ---- targets

-- the offsets to which instructions and handlers lead
abbrev pub targets_in : List (ℕ × Insn) → List Handler → List ℕ
targets_in insns handlers =
    flat_map (λ (row : ℕ × Insn). arg_targets row.1.arg) insns ++ map (λ (handler : Handler). handler.target) handlers

-- an offset is among these
abbrev pub is_among : List ℕ → ℕ → Bool
is_among targets pc = list_any (λ (target : ℕ). target == pc) targets

-- the frames whose offsets pass a test
abbrev pub frames_where : (ℕ → Bool) → List (ℕ × Frame) → List (ℕ × Frame)
frames_where test rows = filter (λ (row : ℕ × Frame). test row.0) rows

-- the frames at the targets of a code
abbrev pub target_frames : Plan → List (ℕ × Frame)
target_frames plan = frames_where (is_among (targets_in plan.insns plan.handlers)) plan.frames
