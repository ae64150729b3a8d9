use Rattle.std.proofs.Common.{◌≡◌, refl, sym, subst}
use Rattle.jv_resolve.proofs.Tests.{none_weaker, some_weaker}
use Rattle.av_rules.specs.declared.flat_type.FlatType.{FlatType}
use Rattle.av_rules.specs.Labels.{IsReferenceFlat, IsSeenAs}
use Rattle.av_rules.proofs.BoundsLemmas.{seen_item_one}
use Rattle.av_rules.proofs.given.Given.seen_item.Goals as goal

pub returns-clause-found : goal.returns-clause-found
returns-clause-found c =
    let w = c.args.self.now.world.now in
    let item = c.args.item in
    let seen : FlatType = record { base = c.seen_as.result; dims = item.dims } in
    let Made : FlatType → Type 0 = λ made. (made ≡ seen) × IsReferenceFlat seen in
    let Goal : FlatType → Type 0 = λ bound. (bound.dims ≡ item.dims) × IsSeenAs w item.base bound.base × IsReferenceFlat bound in
    some_weaker c.of_references.result Made Goal
    (λ made h. subst Goal (sym h.0) (refl, c.seen_as.ensures, h.1)) c.of_references.ensures.found

pub returns-clause-none : goal.returns-clause-none
returns-clause-none c =
    let w = c.args.self.now.world.now in
    let item = c.args.item in
    let seen : FlatType = record { base = c.seen_as.result; dims = item.dims } in
    none_weaker c.of_references.result (IsReferenceFlat seen → ⊥)
    ((bound : FlatType) → bound.dims ≡ item.dims → IsSeenAs w item.base bound.base → IsReferenceFlat bound → ⊥)
    (λ none bound dims is references.
    none (subst IsReferenceFlat (seen_item_one w item seen bound c.requires.kept.world.numbered c.seen_as.ensures refl dims is) references))
    c.of_references.ensures.none
