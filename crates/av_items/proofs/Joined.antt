-- Rows that are added behind others.
use Rattle.std.proofs.Common.{◌≡◌, List, [], ◌++◌, Result, Ok, Err, ap, sym, ◌∙◌, append-nil}
use Rattle.std.specs.Prelude.{IfOk}
use Rattle.jv_types.specs.declared.frames.Frame.{Frame}
use Rattle.av_asm.specs.declared.step.Step.{Step}
use Rattle.av_asm.specs.Built.{Built}
use Rattle.av_standin_of.specs.Codes.{Row}
use Rattle.av_templates.specs.Putting.{with_rows}
use Rattle.av_templates.proofs.Adding.{then_rows}

-- others, and then more
pub then_more : {E : Type 0} (made : Result Built E) (old middle : Built) (xs ys zs : List Row) → middle ≡ with_rows old xs
    → IfOk made (λ (new : Built). new ≡ with_rows middle ys) → ys ≡ zs → IfOk made (λ (new : Built). new ≡ with_rows old (xs ++ zs))
then_more (Ok new) old middle xs ys zs a b same = then_rows old middle new xs zs a (b ∙ ap (λ (rows : List Row). with_rows middle rows) same)
then_more (Err e) old middle xs ys zs a b same = tt

-- nothing
pub none_added : (built : Built) → built ≡ with_rows built []
none_added built =
    ap (λ (steps : List Step). record built { steps = steps }) (sym (append-nil built.steps))
    ∙ ap (λ (frames : List Frame). record built { steps = built.steps ++ []; frames = frames }) (sym (append-nil built.frames))
