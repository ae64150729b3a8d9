use Rattle.std.proofs.Common.{◌≡◌, List, ℕ, ◌∷◌, sym, ◌∙◌}
use Rattle.jv_lists.proofs.Places.{heads}
use Rattle.jv_desc.proofs.DescReading.{params_more, params_stuck}
use Rattle.jv_desc.proofs.Fronts.{same_refusal}
use Rattle.jv_desc.proofs.types_read.params_at.Goals as goal

pub loop-first-preserved : goal.loop-first-preserved
loop-first-preserved c =
    let left = c.loop-first.left.now in
    let not_end : (x : List ℕ) → left ≡ 41 ∷ x → ⊥ = λ x e. c.if-first-eq41.false (heads c.in-Some.first.now 41 c.in-Some.rest.now x (sym c.in-Some.ensures.cases.0 ∙ e)).0 in
    rw c.in_ok-push-in-Ok.ensures.items (params_more c.args.bytes.now c.loop-first.params.items left c.in-Ok.desc c.in-Ok.after.now c.loop-first.invariant not_end c.in-Ok.ensures.found)

pub returns-in-Err-clause-bad : goal.returns-in-Err-clause-bad
returns-in-Err-clause-bad c =
    let left = c.loop-first.left.now in
    let not_end : (x : List ℕ) → left ≡ 41 ∷ x → ⊥ = λ x e. c.if-first-eq41.false (heads c.in-Some.first.now 41 c.in-Some.rest.now x (sym c.in-Some.ensures.cases.0 ∙ e)).0 in
    λ bad. params_stuck c.args.bytes.now c.loop-first.params.items left c.loop-first.invariant not_end (c.in-Err.ensures.bad (same_refusal c.in-Err.e bad))
