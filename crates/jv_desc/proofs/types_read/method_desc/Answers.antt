use Rattle.std.proofs.Common.{◌≡◌, ◌∷◌, ℕ, ap, ◌∙◌}
use Rattle.jv_desc.proofs.Agreement.{method_stuck}
use Rattle.jv_desc.proofs.Fronts.{same_refusal}
use Rattle.jv_desc.proofs.types_read.method_desc.Goals as goal

pub returns-in-Err-result_of-clause-bad : goal.returns-in-Err-result_of-clause-bad
returns-in-Err-result_of-clause-bad c =
    let first : c.args.bytes.now ≡ 40 ∷ c.in-Some.rest.now = c.in-Some.ensures.cases.0 ∙ ap (λ (b : ℕ). b ∷ c.in-Some.rest.now) c.if-first-ne40.false in
    λ bad. method_stuck c.args.bytes.now c.in-Some.rest.now c.in-Ok.read.0.items c.in-Ok.read.1.now first c.in-Ok.ensures.found (c.in-Err-result_of.ensures.bad (same_refusal c.in-Err-result_of.e bad))
