-- A builder to which instructions were added, each with the frame before it.
use Rattle.std.specs.Prelude.{ℕ, ◌+◌, List, ◌++◌, length, map}
use Rattle.jv_types.specs.declared.frames.VType.{VType}
use Rattle.jv_frames.specs.Types.{frame_of}
use Rattle.av_asm.specs.declared.step.Step.TheVariants as steps
use Rattle.av_asm.specs.Built.{Built}
use Rattle.jv_types.specs.declared.shapes.MethodShape.{MethodShape}
use Rattle.av_standin_of.specs.Codes.{Row}
use Rattle.av_standin_of.specs.Templates.{words_in, local_types, hands_over, throws, answers}

abbrev pub with_rows : Built → List Row → Built
with_rows built rows = record built {
  steps = built.steps ++ map (λ (row : Row). row.step) rows;
  frames = built.frames ++ map (λ (row : Row). row.frame) rows;
}

-- a branch of this opcode that hasn't landed, with the frame before it
abbrev pub open_row : ℕ → List VType → List VType → ℕ → Row
open_row words locals stack op = record { step = steps.Open op; frame = frame_of words locals stack }

-- what most methods do, behind so many instructions
abbrev pub template_rows : ℕ → List ℕ → MethodShape → List Row
template_rows before class method =
    hands_over class method
    ++ (throws (words_in method) (local_types class method) (before + length (hands_over class method))
    ++ answers (words_in method) (local_types class method) method.desc.result)
