use Rattle.std.proofs.Common.{◌≡◌, ◌<◌, ◌≤◌, refl}
use Rattle.jv_resolve.proofs.Tests.{none_weaker, some_weaker}
use Rattle.jv_types.specs.declared.desc.RefType.{Array}
use Rattle.av_rules.specs.declared.flat_type.FlatType.{FlatType}
use Rattle.av_rules.specs.FlatTypes.{IsFlat}
use Rattle.av_rules.proofs.Flats.{array_of, flat_by_item, flat_full, flat_none}
use Rattle.av_rules.proofs.making.array_made.Goals as goal

pub returns-in-None-clause-none : goal.returns-in-None-clause-none
returns-in-None-clause-none c = flat_none c.args.world.now (Array c.args.t.now) c.args.t.now c.args.t.now refl refl c.in-None.ensures.none

pub returns-in-Some-clause-found : goal.returns-in-Some-clause-found
returns-in-Some-clause-found c =
    let t = c.args.t.now in
    let inner = c.in-Some.inner in
    let Made : FlatType → Type 0 = λ made. (inner.dims < 255) × (made ≡ array_of inner) in
    some_weaker c.array.result Made (IsFlat c.args.world.now (Array t))
    (λ made h. flat_by_item c.args.world.now (Array t) t t inner made refl refl c.in-Some.ensures.found h.0 h.1) c.array.ensures.found

pub returns-in-Some-clause-none : goal.returns-in-Some-clause-none
returns-in-Some-clause-none c =
    let t = c.args.t.now in
    let inner = c.in-Some.inner in
    none_weaker c.array.result (255 ≤ inner.dims) ((made : FlatType) → IsFlat c.args.world.now (Array t) made → ⊥)
    (flat_full c.args.world.now (Array t) t t inner refl refl c.in-Some.ensures.one) c.array.ensures.none
