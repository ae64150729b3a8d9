-- What each builder keeps.
use Rattle.std.proofs.Common.{◌≡◌, ℕ, ◌+◌, ◌<◌, ◌≤◌, ◌^◌, List, [], ◌∷◌, ◌++◌, length, sym, ap, subst, ◌∙◌, arith}
use Rattle.std.specs.List.{AllByRecursion}
use Rattle.std.proofs.lemmas.List.{length_push}
use Rattle.jv_types.specs.declared.frames.Frame.{Frame}
use Rattle.jv_insn.proofs.EncodingLoop.{all_push, all_on}
use Rattle.av_asm.specs.declared.step.Step.{Step}
use Rattle.av_asm.specs.declared.step.Span.{Span}
use Rattle.av_asm.specs.Built.{IsSpan, KeepsForm}

span_later : (m n : ℕ) (span : Span) → m ≤ n → IsSpan m span → IsSpan n span
span_later m n span le h = let within : span.target ≤ m = h.within in record { covers = h.covers; behind = h.behind; within = omega arith }

-- an instruction more
pub keeps_step : (steps more : List Step) (frames others : List Frame) (spans : List Span) (step : Step) (frame : Frame) → KeepsForm steps frames spans → length steps + 1 < 2 ^ 32 → more ≡ steps ++ step ∷ []
    → others ≡ frames ++ frame ∷ [] → KeepsForm more others spans
keeps_step steps more frames others spans step frame keeps room pushed framed =
    let longer : length more ≡ length steps + 1 = ap length pushed ∙ length_push steps step in
    let as_long : length others ≡ length frames + 1 = ap length framed ∙ length_push frames frame in
    let each : length frames ≡ length steps = keeps.each in
    record {
      each = omega arith;
      few = omega arith;
      handled = all_on (IsSpan (length steps)) (IsSpan (length more)) spans (λ span h. span_later (length steps) (length more) span (omega arith) h) keeps.handled;
    }

-- a handler more
pub keeps_span : (steps : List Step) (frames : List Frame) (spans more : List Span) (span : Span) → KeepsForm steps frames spans → span.start < span.end → span.end ≤ length steps → span.target ≡ length steps → more ≡ spans ++ span ∷ []
    → KeepsForm steps frames more
keeps_span steps frames spans more span keeps covers within next pushed =
    let one : IsSpan (length steps) span = record { covers = covers; behind = omega (arith, within, next); within = omega (arith, next) } in
    record {
      each = keeps.each;
      few = keeps.few;
      handled = subst (AllByRecursion (IsSpan (length steps))) (sym pushed) (all_push (IsSpan (length steps)) spans span keeps.handled one);
    }

-- as many instructions
pub keeps_as : (steps others : List Step) (frames rest : List Frame) (spans : List Span) → length others ≡ length steps → rest ≡ frames → KeepsForm steps frames spans → KeepsForm others rest spans
keeps_as steps others frames rest spans same framed keeps = record {
  each = ap length framed ∙ keeps.each ∙ sym same;
  few = subst (λ (n : ℕ). n < 2 ^ 32) (sym same) keeps.few;
  handled = subst (λ (n : ℕ). AllByRecursion (IsSpan n) spans) (sym same) keeps.handled;
}
