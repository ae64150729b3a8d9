use Rattle.std.proofs.Common.{◌≡◌, ◌+◌, ◌<◌}
use Rattle.jv_resolve.proofs.Tests.{none_weaker, some_weaker}
use Rattle.av_rules.specs.declared.flat_type.FlatType.{FlatType}
use Rattle.av_rules.specs.Labels.{IsInner}
use Rattle.av_rules.proofs.MakingLemmas.{inner_none}
use Rattle.av_rules.proofs.making.inner_made.Goals as goal

pub returns-in-None-clause-none : goal.returns-in-None-clause-none
returns-in-None-clause-none c = λ made x. c.in-None.ensures.none x.0 x.1

pub returns-in-Some-clause-found : goal.returns-in-Some-clause-found
returns-in-Some-clause-found c =
    let whole = c.in-Some.whole in
    let Made : FlatType → Type 0 = λ made. (made.base ≡ whole.base) × (made.dims + c.args.depth ≡ whole.dims) in
    some_weaker c.inside.result Made (IsInner c.args.world.now c.args.t.now c.args.depth) (λ made h. (whole, c.in-Some.ensures.found, h.0, h.1)) c.inside.ensures.found

pub returns-in-Some-clause-none : goal.returns-in-Some-clause-none
returns-in-Some-clause-none c =
    let whole = c.in-Some.whole in
    none_weaker c.inside.result (whole.dims < c.args.depth) ((made : FlatType) → IsInner c.args.world.now c.args.t.now c.args.depth made → ⊥)
    (λ deep made. inner_none c.args.world.now c.args.t.now whole made c.args.depth c.in-Some.ensures.one deep) c.inside.ensures.none
