-- The list has the superinterface methods.
use Rattle.std.proofs.Common.{sym, subst}
use Rattle.jv_types.specs.declared.ids.MethodId.{MethodId}
use Rattle.jv_resolve.specs.Inheriting.{IsSingleDefault}
use Rattle.jv_resolve.specs.Steps.Among.{AreSuperinterfaceMethods, IsSingleAmong}
use Rattle.jv_resolve.proofs.AboveLemmas.{no_default}
use Rattle.jv_resolve.proofs.SuperinterfaceLemmas.{are_here, single_from_among}
use Rattle.jv_resolve.proofs.Tests.{some_weaker, none_weaker}
use Rattle.jv_resolve.proofs.above.default_above.Goals as goal

pub single_default-requires : goal.single_default-requires
single_default-requires c =
    let exact = subst (AreSuperinterfaceMethods c.args.world.now c.args.c.number c.args.name.now c.args.desc.now) (sym c.as_slice.ensures.value) c.in_ok-methods.ensures in
    are_here c.args.world.now c.args.c.number c.args.name.now c.args.desc.now c.as_slice.result.now exact

pub returns-clause-found : goal.returns-clause-found
returns-clause-found c =
    let exact = subst (AreSuperinterfaceMethods c.args.world.now c.args.c.number c.args.name.now c.args.desc.now) (sym c.as_slice.ensures.value) c.in_ok-methods.ensures in
    some_weaker c.single_default.result (IsSingleAmong c.args.world.now c.as_slice.result.now) (IsSingleDefault c.args.world.now c.args.c.number c.args.name.now c.args.desc.now)
    (λ m p. single_from_among c.args.world.now c.args.c.number c.args.name.now c.args.desc.now c.as_slice.result.now m exact p) c.single_default.ensures.found

pub returns-clause-none : goal.returns-clause-none
returns-clause-none c =
    let exact = subst (AreSuperinterfaceMethods c.args.world.now c.args.c.number c.args.name.now c.args.desc.now) (sym c.as_slice.ensures.value) c.in_ok-methods.ensures in
    none_weaker c.single_default.result ((m : MethodId) → IsSingleAmong c.args.world.now c.as_slice.result.now m → ⊥)
    ((m : MethodId) → IsSingleDefault c.args.world.now c.args.c.number c.args.name.now c.args.desc.now m → ⊥)
    (no_default c.args.world.now c.args.c.number c.args.name.now c.args.desc.now c.as_slice.result.now exact) c.single_default.ensures.none
