use Rattle.std.proofs.Common.{◌≡◌, ◌<◌, ◌≤◌}
use Rattle.jv_resolve.proofs.Tests.{none_weaker, some_weaker}
use Rattle.av_rules.specs.declared.flat_type.FlatType.{FlatType}
use Rattle.av_rules.specs.FlatTypes.{IsFlat}
use Rattle.av_rules.proofs.Flats.{array_of, flat_absent, flat_array_one, flat_by_item, flat_class_one, flat_full, flat_none}
use Rattle.av_rules.proofs.flat_type.+flat_of.Goals as goal

pub returns-in-None-clause-none : goal.returns-in-None-clause-none
returns-in-None-clause-none t c = flat_absent c.args.world.now c.args.t.now c.in-Class.name c.in-Class.is c.in-None.ensures.none

pub returns-in-Some-clause-one : goal.returns-in-Some-clause-one
returns-in-Some-clause-one t c =
    flat_class_one c.args.world.now c.args.t.now c.in-Class.name c.in-Some.c c.in-Some.ensures.world.numbered c.in-Class.is c.in-Some.ensures.found

pub returns-in-None-flat_of-clause-none : goal.returns-in-None-flat_of-clause-none
returns-in-None-flat_of-clause-none t c =
    flat_none c.args.world.now c.args.t.now c.in-Array.item c.get.result.now c.in-Array.is c.get.ensures c.in-None-flat_of.ensures.none

pub returns-in-Some-flat_of-clause-found : goal.returns-in-Some-flat_of-clause-found
returns-in-Some-flat_of-clause-found t c =
    let inner = c.in-Some-flat_of.inner in
    let Made : FlatType → Type 0 = λ made. (inner.dims < 255) × (made ≡ array_of inner) in
    some_weaker c.array.result Made (IsFlat c.args.world.now c.args.t.now)
    (λ made h. flat_by_item c.args.world.now c.args.t.now c.in-Array.item c.get.result.now inner made c.in-Array.is c.get.ensures c.in-Some-flat_of.ensures.found h.0 h.1)
    c.array.ensures.found

pub returns-in-Some-flat_of-clause-one : goal.returns-in-Some-flat_of-clause-one
returns-in-Some-flat_of-clause-one t c =
    let inner = c.in-Some-flat_of.inner in
    let Made : FlatType → Type 0 = λ made. (inner.dims < 255) × (made ≡ array_of inner) in
    let One : FlatType → Type 0 = λ flat. (other : FlatType) → IsFlat c.args.world.now c.args.t.now other → other ≡ flat in
    some_weaker c.array.result Made One
    (λ made h. flat_array_one c.args.world.now c.args.t.now c.in-Array.item c.get.result.now inner made c.in-Array.is c.get.ensures c.in-Some-flat_of.ensures.one h.1)
    c.array.ensures.found

pub returns-in-Some-flat_of-clause-none : goal.returns-in-Some-flat_of-clause-none
returns-in-Some-flat_of-clause-none t c =
    let inner = c.in-Some-flat_of.inner in
    none_weaker c.array.result (255 ≤ inner.dims) ((flat : FlatType) → IsFlat c.args.world.now c.args.t.now flat → ⊥)
    (flat_full c.args.world.now c.args.t.now c.in-Array.item c.get.result.now inner c.in-Array.is c.get.ensures c.in-Some-flat_of.ensures.one)
    c.array.ensures.none
