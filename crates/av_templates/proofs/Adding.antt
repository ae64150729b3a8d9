-- Rows that are added one behind the other.
use Rattle.std.proofs.Common.{◌≡◌, List, ◌++◌, map, ap, ◌∙◌, append_assoc, Result, Ok, Err, [], ◌∷◌}
use Rattle.std.specs.Prelude.{IfOk}
use Rattle.std.proofs.lemmas.List.{map-append}
use Rattle.jv_types.specs.declared.frames.Frame.{Frame}
use Rattle.av_asm.specs.declared.step.Step.{Step}
use Rattle.av_asm.specs.Built.{Built}
use Rattle.av_standin_of.specs.Codes.{Row}
use Rattle.av_templates.specs.Putting.{with_rows}

steps_join : (xs ys : List Row) (front : List Step) → (front ++ map (λ (row : Row). row.step) xs) ++ map (λ (row : Row). row.step) ys ≡ front ++ map (λ (row : Row). row.step) (xs ++ ys)
steps_join xs ys front = simp (append_assoc, map-append)

frames_join : (xs ys : List Row) (front : List Frame) → (front ++ map (λ (row : Row). row.frame) xs) ++ map (λ (row : Row). row.frame) ys ≡ front ++ map (λ (row : Row). row.frame) (xs ++ ys)
frames_join xs ys front = simp (append_assoc, map-append)

pub with_both : (built : Built) (xs ys : List Row) → with_rows (with_rows built xs) ys ≡ with_rows built (xs ++ ys)
with_both built xs ys =
    ap (λ (steps : List Step). record built { steps = steps; frames = (built.frames ++ map (λ (row : Row). row.frame) xs) ++ map (λ (row : Row). row.frame) ys }) (steps_join xs ys built.steps)
    ∙ ap (λ (frames : List Frame). record built { steps = built.steps ++ map (λ (row : Row). row.step) (xs ++ ys); frames = frames }) (frames_join xs ys built.frames)

-- one after the other
pub then_rows : (old middle new : Built) (xs ys : List Row) → middle ≡ with_rows old xs → new ≡ with_rows middle ys → new ≡ with_rows old (xs ++ ys)
then_rows old middle new xs ys a b = b ∙ ap (λ (built : Built). with_rows built ys) a ∙ with_both old xs ys

-- one more row behind others
pub then_one : {E : Type 0} (made : Result Built E) (old middle : Built) (xs : List Row) (y z : Row) → middle ≡ with_rows old xs
    → IfOk made (λ (new : Built). new ≡ with_rows middle (y ∷ [])) → y ≡ z → IfOk made (λ (new : Built). new ≡ with_rows old (xs ++ z ∷ []))
then_one (Ok new) old middle xs y z a b same = then_rows old middle new xs (z ∷ []) a (b ∙ ap (λ (row : Row). with_rows middle (row ∷ [])) same)
then_one (Err e) old middle xs y z a b same = tt
