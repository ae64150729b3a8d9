-- A builder that holds just one code.
use Rattle.std.proofs.Common.{◌≡◌, List, [], ◌++◌, map, Result, Ok, Err, ap, ◌∙◌, ℕ}
use Rattle.std.specs.Prelude.{IfOk}
use Rattle.jv_types.specs.declared.frames.Frame.{Frame}
use Rattle.av_asm.specs.declared.step.Step.{Step}
use Rattle.av_asm.specs.declared.step.Span.{Span}
use Rattle.av_asm.specs.Built.{Built}
use Rattle.av_standin_of.specs.Codes.{Row, Code, built_of}
use Rattle.av_items.specs.Coding.{IsBegun, with_code}

abbrev steps_of : Code → List Step
steps_of code = map (λ (row : Row). row.step) code.rows

abbrev frames_of : Code → List Frame
frames_of code = map (λ (row : Row). row.frame) code.rows

-- a code that was added to nothing is all that the builder holds
pub alone : {E : Type 0} (old : Built) (code : Code) (made : Result Built E) → IsBegun old → old.words ≡ code.words
    → IfOk made (λ (new : Built). new ≡ with_code old code) → IfOk made (λ (new : Built). new ≡ built_of old.method code)
alone old code (Err e) begun words put = tt
alone old code (Ok new) begun words put =
    let all = with_code old code in
    put
    ∙ ap (λ (steps : List Step). record all { steps = steps ++ steps_of code }) begun.steps
    ∙ ap (λ (frames : List Frame). record all { steps = steps_of code; frames = frames ++ frames_of code }) begun.frames
    ∙ ap (λ (spans : List Span). record all { steps = steps_of code; frames = frames_of code; spans = spans ++ code.spans }) begun.spans
    ∙ ap (λ (words : ℕ). record (built_of old.method code) { words = words }) words
