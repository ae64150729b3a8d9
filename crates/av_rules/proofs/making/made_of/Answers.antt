use Rattle.std.proofs.Common.{◌≡◌, inl, inr}
use Rattle.jv_resolve.proofs.Tests.{denied, none_weaker, some_weaker}
use Rattle.jv_types.specs.declared.desc.RefType.{Array}
use Rattle.av_rules.specs.declared.flat_type.FlatType.{FlatType}
use Rattle.av_rules.specs.FlatTypes.{IsFlat}
use Rattle.av_rules.specs.Labels.{MakesOf}
use Rattle.av_rules.proofs.MakingLemmas.{anewarray_only, neither, new_only}
use Rattle.av_rules.proofs.making.made_of.Goals as goal

pub returns-then-is_new-clause-found : goal.returns-then-is_new-clause-found
returns-then-is_new-clause-found c =
    let Made : FlatType → Type 0 = λ made. IsFlat c.args.world.now c.args.t.now made × (made.dims ≡ 0) in
    some_weaker c.class_made.result Made (MakesOf c.args.world.now c.args.op c.args.t.now) (λ made h. inl (c.is_new.ensures.0 c.if-is_new.true, h.0, h.1)) c.class_made.ensures.found

pub returns-then-is_new-clause-none : goal.returns-then-is_new-clause-none
returns-then-is_new-clause-none c =
    none_weaker c.class_made.result ((made : FlatType) → IsFlat c.args.world.now c.args.t.now made → made.dims ≡ 0 → ⊥)
    ((made : FlatType) → MakesOf c.args.world.now c.args.op c.args.t.now made → ⊥)
    (λ none made. new_only c.args.world.now c.args.op c.args.t.now made (c.is_new.ensures.0 c.if-is_new.true) none) c.class_made.ensures.none

pub returns-then-is_anewarray-clause-found : goal.returns-then-is_anewarray-clause-found
returns-then-is_anewarray-clause-found c =
    some_weaker c.array_made.result (IsFlat c.args.world.now (Array c.args.t.now)) (MakesOf c.args.world.now c.args.op c.args.t.now) (λ made h. inr (c.is_anewarray.ensures.0 c.if-is_anewarray.true, h))
    c.array_made.ensures.found

pub returns-then-is_anewarray-clause-none : goal.returns-then-is_anewarray-clause-none
returns-then-is_anewarray-clause-none c =
    none_weaker c.array_made.result ((made : FlatType) → IsFlat c.args.world.now (Array c.args.t.now) made → ⊥)
    ((made : FlatType) → MakesOf c.args.world.now c.args.op c.args.t.now made → ⊥)
    (λ none made. anewarray_only c.args.world.now c.args.op c.args.t.now made (c.is_anewarray.ensures.0 c.if-is_anewarray.true) none) c.array_made.ensures.none

pub returns-clause-none : goal.returns-clause-none
returns-clause-none c = λ made.
    neither c.args.world.now c.args.op c.args.t.now made (denied c.is_new.result c.if-is_new.false c.is_new.ensures.1)
    (denied c.is_anewarray.result c.if-is_anewarray.false c.is_anewarray.ensures.1)
