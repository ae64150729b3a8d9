use Rattle.std.proofs.Common.{◌≡◌}
use Rattle.jv_resolve.proofs.Tests.{none_weaker, some_weaker}
use Rattle.av_rules.specs.declared.flat_type.FlatType.{FlatType}
use Rattle.av_rules.specs.FlatTypes.{IsFlat}
use Rattle.av_rules.proofs.MakingLemmas.{class_by, class_none}
use Rattle.av_rules.proofs.making.class_made.Goals as goal

pub returns-in-Some-clause-found : goal.returns-in-Some-clause-found
returns-in-Some-clause-found c =
    let own = c.in-Some.made in
    let Made : FlatType → Type 0 = λ made. (made ≡ own) × (own.dims ≡ 0) in
    let Goal : FlatType → Type 0 = λ made. IsFlat c.args.world.now c.args.t.now made × (made.dims ≡ 0) in
    some_weaker c.no_array.result Made Goal (λ made h. class_by c.args.world.now c.args.t.now own made c.in-Some.ensures.found h.0 h.1) c.no_array.ensures.found

pub returns-in-Some-clause-none : goal.returns-in-Some-clause-none
returns-in-Some-clause-none c =
    let own = c.in-Some.made in
    none_weaker c.no_array.result (own.dims ≡ 0 → ⊥) ((made : FlatType) → IsFlat c.args.world.now c.args.t.now made → made.dims ≡ 0 → ⊥)
    (λ array made. class_none c.args.world.now c.args.t.now own made c.in-Some.ensures.one array) c.no_array.ensures.none
