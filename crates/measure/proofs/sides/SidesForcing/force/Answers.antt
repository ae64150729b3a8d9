use Rattle.std.proofs.Common.{ℕ, ◌<◌, ◌≤◌, ◌++◌, ◌∷◌, [], List, sym, ap, ◌∙◌, subst, arith}
use Rattle.std.proofs.lemmas.Bool.{false≢true}
use Rattle.jv_fix.specs.Facts.{AppendsForced}
use Rattle.measure.specs.Sides.{after, meets}
use Rattle.measure.proofs.Meeting.{alone, with_partner}
use Rattle.measure.proofs.sides.SidesForcing.force.Goals as goal

low : (side : ℕ) → side ≤ 1 → side < 2
low side past = omega (arith, past)

pub returns-in_ok-push-2-clause-ok : goal.returns-in_ok-push-2-clause-ok
returns-in_ok-push-2-clause-ok c =
    let size = c.args.self.now.size in
    let fact = c.args.fact.now in
    let old = c.args.out.now.items in
    let first = c.in_ok-push.ensures.items ∙ ap (λ (n : ℕ). old ++ (fact.0, n) ∷ []) c.after.ensures in
    let both = c.in_ok-push-2.ensures.items ∙ ap (λ (xs : List (ℕ × ℕ)). xs ++ (2, fact.1) ∷ []) first in
    subst (AppendsForced (meets size) fact c.args.found.now old) (sym both)
    (with_partner size fact c.args.found.now old (low fact.0 c.if-side-gt1.false) (c.has.ensures.0 c.if-has.true))

pub returns-else-has-clause-ok : goal.returns-else-has-clause-ok
returns-else-has-clause-ok c =
    let size = c.args.self.now.size in
    let fact = c.args.fact.now in
    let old = c.args.out.now.items in
    let first = c.in_ok-push.ensures.items ∙ ap (λ (n : ℕ). old ++ (fact.0, n) ∷ []) c.after.ensures in
    subst (AppendsForced (meets size) fact c.args.found.now old) (sym first)
    (alone size fact c.args.found.now old (low fact.0 c.if-side-gt1.false) (λ h. false≢true (sym c.if-has.false ∙ c.has.ensures.1 h)))
