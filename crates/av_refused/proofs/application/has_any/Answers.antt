use Rattle.std.proofs.Common.{◌≡◌, ℕ, List, Contains, true, false}
use Rattle.av_refused.proofs.First.{none_all, none_more, not_there}
use Rattle.av_refused.proofs.application.has_any.Goals as goal

pub loop-name-preserved : goal.loop-name-preserved
loop-name-preserved c =
    none_more (λ (name : List ℕ). Contains c.args.list.now name) c.args.names.now c.loop-name.name-index c.name-item.result c.loop-name-test.true c.name-item.is c.loop-name.invariant
    (not_there c.has.result (Contains c.args.list.now c.name-item.result) c.has.ensures c.if-has.false)

pub returns : goal.returns
returns c = (
  λ (t : false ≡ true). absurd cc,
  λ w. absurd (none_all (λ (name : List ℕ). Contains c.args.list.now name) c.args.names.now c.loop-name.name-index c.loop-name-test.false c.loop-name.invariant w.0 w.1 w.2),
)
