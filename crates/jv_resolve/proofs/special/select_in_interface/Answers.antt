-- The interface's own one, Object's, or the single one above.
use Rattle.std.proofs.Common.{ℕ, ap}
use Rattle.jv_types.specs.declared.ids.ClassId.{ClassId}
use Rattle.jv_types.specs.declared.ids.MethodId.{MethodId}
use Rattle.jv_resolve.specs.Inheriting.{IsSingleDefault}
use Rattle.jv_resolve.specs.Members.{IsConcrete}
use Rattle.jv_resolve.specs.Resolving.{IsObjectMethod}
use Rattle.jv_resolve.specs.Selecting.{SelectsInInterface}
use Rattle.jv_resolve.proofs.SpecialLemmas.{own_is, object_is, default_is, not_concrete}
use Rattle.jv_resolve.proofs.Tests.{none_weaker, ok_none, none_at, some_at}
use Rattle.jv_resolve.proofs.special.select_in_interface.Goals as goal

pub returns-in-Some-clause-none : goal.returns-in-Some-clause-none
returns-in-Some-clause-none c =
    let number : ClassId → ℕ = λ k. k.number in
    none_weaker c.concrete_only.result (IsConcrete c.args.world.now c.in-Some.m → ⊥)
    ((s : MethodId) → SelectsInInterface c.args.world.now c.args.resolved c.args.name.now c.args.desc.now c.args.start.number s → ⊥)
    (not_concrete c.args.world.now c.args.resolved c.args.name.now c.args.desc.now c.args.start.number c.in-Some.m
    (λ s p. own_is c.args.world.now c.args.resolved c.args.name.now c.args.desc.now c.args.start.number c.in-Some.m s c.in-Some.ensures.found.1 (ap number c.in-Some.ensures.found.0) p))
    c.concrete_only.ensures.none

pub returns-in-Some-2-clause-none : goal.returns-in-Some-2-clause-none
returns-in-Some-2-clause-none c =
    let found = some_at c.in_ok-m.field-0 c.in-Some-2.m (IsObjectMethod c.args.world.now c.args.name.now c.args.desc.now) c.in-Some-2.is c.in_ok-m.ensures.found in
    none_weaker c.concrete_only-in-Some-2.result (IsConcrete c.args.world.now c.in-Some-2.m → ⊥)
    ((s : MethodId) → SelectsInInterface c.args.world.now c.args.resolved c.args.name.now c.args.desc.now c.args.start.number s → ⊥)
    (not_concrete c.args.world.now c.args.resolved c.args.name.now c.args.desc.now c.args.start.number c.in-Some-2.m
    (λ s p. object_is c.args.world.now c.args.resolved c.args.name.now c.args.desc.now c.args.start.number c.in-Some-2.m s c.in_default.ensures.none c.in_default.ensures.world found p))
    c.concrete_only-in-Some-2.ensures.none

pub returns-clause-none : goal.returns-clause-none
returns-clause-none c =
    let object = none_at c.in_ok-m.field-0 ((m : MethodId) → IsObjectMethod c.args.world.now c.args.name.now c.args.desc.now m → ⊥) c.in_default-2.is c.in_ok-m.ensures.none in
    ok_none c.default_above.result ((m : MethodId) → IsSingleDefault c.args.world.now c.args.start.number c.args.name.now c.args.desc.now m → ⊥)
    ((s : MethodId) → SelectsInInterface c.args.world.now c.args.resolved c.args.name.now c.args.desc.now c.args.start.number s → ⊥)
    (default_is c.args.world.now c.args.resolved c.args.name.now c.args.desc.now c.args.start.number c.in_default.ensures.none object) c.default_above.ensures.none
