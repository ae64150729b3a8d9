-- In the interface, in Object, or above.
use Rattle.std.proofs.Common.{inl, inr}
use Rattle.jv_types.specs.declared.ids.MethodId.{MethodId}
use Rattle.jv_resolve.specs.Resolving.{IsObjectMethod, ResolvesAbove, ResolvesInInterface}
use Rattle.jv_resolve.proofs.AboveLemmas.{nothing_in_interface}
use Rattle.jv_resolve.proofs.Tests.{ok_none, ok_some, none_at, some_at}
use Rattle.jv_resolve.proofs.class_methods.method_of_interface.Goals as goal

pub returns-in-Some-2-clause-found : goal.returns-in-Some-2-clause-found
returns-in-Some-2-clause-found c =
    inr (
      (λ other p. c.in_default.ensures.none other p.1 p.0),
      inl (some_at c.in_ok-m.field-0 c.in-Some-2.m (IsObjectMethod c.args.world.now c.args.name.now c.args.desc.now) c.in-Some-2.is c.in_ok-m.ensures.found),
    )

pub returns-clause-found : goal.returns-clause-found
returns-clause-found c =
    let object = none_at c.in_ok-m.field-0 ((m : MethodId) → IsObjectMethod c.args.world.now c.args.name.now c.args.desc.now m → ⊥) c.in_default-2.is c.in_ok-m.ensures.none in
    ok_some c.method_above.result (ResolvesAbove c.args.world.now c.args.c.number c.args.name.now c.args.desc.now) (ResolvesInInterface c.args.world.now c.args.c.number c.args.name.now c.args.desc.now)
    (λ m p. inr ((λ other q. c.in_default.ensures.none other q.1 q.0), inr (object, p))) c.method_above.ensures.found

pub returns-clause-none : goal.returns-clause-none
returns-clause-none c =
    let object = none_at c.in_ok-m.field-0 ((m : MethodId) → IsObjectMethod c.args.world.now c.args.name.now c.args.desc.now m → ⊥) c.in_default-2.is c.in_ok-m.ensures.none in
    ok_none c.method_above.result ((m : MethodId) → ResolvesAbove c.args.world.now c.args.c.number c.args.name.now c.args.desc.now m → ⊥)
    ((m : MethodId) → ResolvesInInterface c.args.world.now c.args.c.number c.args.name.now c.args.desc.now m → ⊥)
    (nothing_in_interface c.args.world.now c.args.c.number c.args.name.now c.args.desc.now c.in_default.ensures.none object) c.method_above.ensures.none
