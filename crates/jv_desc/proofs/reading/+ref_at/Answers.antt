use Rattle.std.proofs.Common.{◌≡◌, ◌≢◌, ◌⊎◌, inl, inr, ℕ, ◌∷◌, ap, ◌∙◌}
use Rattle.std.proofs.lemmas.List.{nil_from_length}
use Rattle.jv_desc.proofs.Fronts.{same_refusal}
use Rattle.jv_desc.proofs.RefReading.{no_ref_none, no_ref, no_ref_class, no_ref_array, yes_ref_array}
use Rattle.jv_desc.proofs.reading.+ref_at.Goals.{then-first-ne91-via-then-first-ne91, then-first-ne91-via-else-first-ne91+then-most-eq0}
use Rattle.jv_desc.proofs.reading.+ref_at.Goals as goal

pub returns-in_default-clause-bad : goal.returns-in_default-clause-bad
returns-in_default-clause-bad t c =
    λ _. no_ref_none c.args.most c.args.bytes.now (nil_from_length c.args.bytes.now c.in_default.ensures.cases)

pub returns-in-Err-clause-bad : goal.returns-in-Err-clause-bad
returns-in-Err-clause-bad t c =
    let first : c.args.bytes.now ≡ 76 ∷ c.in-Some.rest.now = c.in-Some.ensures.cases.0 ∙ ap (λ (b : ℕ). b ∷ c.in-Some.rest.now) c.if-first-eq76.true in
    λ bad. no_ref_class c.args.most c.args.bytes.now c.in-Some.rest.now first (c.in-Err.ensures.bad (same_refusal c.in-Err.e bad))

pub returns-then-first-ne91-clause-bad : goal.returns-then-first-ne91-clause-bad
returns-then-first-ne91-clause-bad t c =
    let other : (c.in-Some.first.now ≢ 91) ⊎ (c.args.most ≡ 0) =
    elim c.then-first-ne91.branch [ then-first-ne91-via-then-first-ne91 w ↦ inl w.if-first-ne91.true | then-first-ne91-via-else-first-ne91+then-most-eq0 w ↦ inr w.if-most-eq0.true ] in
    λ _. no_ref c.args.most c.args.bytes.now c.in-Some.first.now c.in-Some.rest.now c.in-Some.ensures.cases.0 c.if-first-eq76.false other

pub returns-in_ok-new-in-Ok-ref_at-clause-found : goal.returns-in_ok-new-in-Ok-ref_at-clause-found
returns-in_ok-new-in-Ok-ref_at-clause-found t c =
    let first : c.args.bytes.now ≡ 91 ∷ c.in-Some.rest.now = c.in-Some.ensures.cases.0 ∙ ap (λ (b : ℕ). b ∷ c.in-Some.rest.now) c.if-first-ne91.false in
    yes_ref_array c.args.most c.args.bytes.now c.in-Some.rest.now c.in-Ok-ref_at.item c.in_ok-new-in-Ok-ref_at.field-0 c.in-Ok-ref_at.after.now first c.if-most-eq0.false c.in_ok-new-in-Ok-ref_at.ensures c.in-Ok-ref_at.ensures.found

pub returns-in-Err-ref_at-clause-bad : goal.returns-in-Err-ref_at-clause-bad
returns-in-Err-ref_at-clause-bad t c =
    let first : c.args.bytes.now ≡ 91 ∷ c.in-Some.rest.now = c.in-Some.ensures.cases.0 ∙ ap (λ (b : ℕ). b ∷ c.in-Some.rest.now) c.if-first-ne91.false in
    λ bad. no_ref_array c.args.most c.args.bytes.now c.in-Some.rest.now first c.in_default-prim_at.ensures.none (c.in-Err-ref_at.ensures.bad bad)
