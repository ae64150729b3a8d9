use Rattle.std.proofs.Common.{◌≡◌}
use Rattle.jv_resolve.proofs.Tests.{none_weaker, some_weaker}
use Rattle.av_rules.specs.declared.flat_type.FlatType.{FlatType}
use Rattle.av_rules.specs.Labels.{AreItems, IsReferenceFlat, IsSeenAs}
use Rattle.av_rules.proofs.BoundsLemmas.{items_by, none_of_flat, seen_by}
use Rattle.av_rules.proofs.given.Given.items_of.Goals as goal

pub returns-in-None-clause-none : goal.returns-in-None-clause-none
returns-in-None-clause-none c = λ bound. none_of_flat c.args.self.now.world.now c.args.made bound c.in-None.ensures.none

pub returns-in-Some-clause-found : goal.returns-in-Some-clause-found
returns-in-Some-clause-found c =
    let w = c.args.self.now.world.now in
    let item = c.in-Some.item in
    let Seen : FlatType → Type 0 = λ bound. (bound.dims ≡ item.dims) × IsSeenAs w item.base bound.base × IsReferenceFlat bound in
    some_weaker c.seen_item.result Seen (AreItems w c.args.made)
    (λ bound h. items_by w c.args.made item bound c.in-Some.ensures.found.0 c.in-Some.ensures.found.1 h.0 h.1 h.2) c.seen_item.ensures.found

pub returns-in-Some-clause-none : goal.returns-in-Some-clause-none
returns-in-Some-clause-none c =
    let w = c.args.self.now.world.now in
    let item = c.in-Some.item in
    none_weaker c.seen_item.result ((bound : FlatType) → bound.dims ≡ item.dims → IsSeenAs w item.base bound.base → IsReferenceFlat bound → ⊥)
    ((bound : FlatType) → AreItems w c.args.made bound → ⊥)
    (λ none bound x. let y = seen_by w c.args.made item bound c.in-Some.ensures.found.0 c.in-Some.ensures.found.1 x in none bound y.0 y.1 y.2) c.seen_item.ensures.none
