-- The targets are the classes of the superinterface methods.
use Rattle.std.proofs.Common.{◌∙◌, ℕ, sym, subst, List}
use Rattle.jv_types.specs.declared.ids.ClassId.{ClassId}
use Rattle.jv_resolve.specs.Steps.Among.{AreSuperinterfaceMethods}
use Rattle.jv_resolve.specs.DepthFirst.{IsFirst}
use Rattle.jv_resolve.specs.Resolving.{DeclaresFor}
use Rattle.jv_resolve.specs.Steps.Targets.{IsTarget, AreClasses}
use Rattle.jv_resolve.proofs.AboveLemmas.{targets_here, target_declares, declares_target, leads_same, first_same, first_holds}
use Rattle.jv_resolve.proofs.above.first_above.Goals as goal

pub first_target-requires-clause-targets_here : goal.first_target-requires-clause-targets_here
first_target-requires-clause-targets_here c =
    let exact = subst (AreSuperinterfaceMethods c.args.world.now c.args.c.number c.args.name.now c.args.desc.now) (sym c.as_slice.ensures.value) c.in_ok-methods.ensures in
    subst (AreClasses c.args.world.now) (sym (c.as_slice-2.ensures.value ∙ c.in_ok-targets.ensures)) (targets_here c.args.world.now c.args.c.number c.args.name.now c.args.desc.now c.as_slice.result.now exact)

pub returns-in_default-clause-none : goal.returns-in_default-clause-none
returns-in_default-clause-none c = λ leads.
    let exact = subst (AreSuperinterfaceMethods c.args.world.now c.args.c.number c.args.name.now c.args.desc.now) (sym c.as_slice.ensures.value) c.in_ok-methods.ensures in
    c.in_default.ensures.none (leads_same c.args.world.now (DeclaresFor c.args.world.now c.args.c.number c.args.name.now c.args.desc.now) (IsTarget c.as_slice-2.result.now)
    (λ e p. subst (λ (ts : List ClassId). IsTarget ts e) (sym (c.as_slice-2.ensures.value ∙ c.in_ok-targets.ensures)) (declares_target c.args.world.now c.args.c.number c.args.name.now c.args.desc.now c.as_slice.result.now exact e p))
    c.args.c.number leads)

pub interface_method_of-requires : goal.interface_method_of-requires
interface_method_of-requires c =
    let exact = subst (AreSuperinterfaceMethods c.args.world.now c.args.c.number c.args.name.now c.args.desc.now) (sym c.as_slice.ensures.value) c.in_ok-methods.ensures in
    let target = first_holds c.args.world.now (IsTarget c.as_slice-2.result.now) c.args.c.number c.in-Some.d.number c.in-Some.ensures.found in
    (targets_here c.args.world.now c.args.c.number c.args.name.now c.args.desc.now c.as_slice.result.now exact).here c.in-Some.d
    (subst (λ (ts : List ClassId). IsTarget ts c.in-Some.d.number) (c.as_slice-2.ensures.value ∙ c.in_ok-targets.ensures) target)

pub unreachable-requires : goal.unreachable-requires
unreachable-requires c =
    let exact = subst (AreSuperinterfaceMethods c.args.world.now c.args.c.number c.args.name.now c.args.desc.now) (sym c.as_slice.ensures.value) c.in_ok-methods.ensures in
    let target = first_holds c.args.world.now (IsTarget c.as_slice-2.result.now) c.args.c.number c.in-Some.d.number c.in-Some.ensures.found in
    let declares = target_declares c.args.world.now c.args.c.number c.args.name.now c.args.desc.now c.as_slice.result.now exact c.in-Some.d.number
    (subst (λ (ts : List ClassId). IsTarget ts c.in-Some.d.number) (c.as_slice-2.ensures.value ∙ c.in_ok-targets.ensures) target) in
    c.in_default-interface_method_of.ensures.none declares.0 declares.2 declares.1.1

pub returns-clause-found : goal.returns-clause-found
returns-clause-found c =
    let exact = subst (AreSuperinterfaceMethods c.args.world.now c.args.c.number c.args.name.now c.args.desc.now) (sym c.as_slice.ensures.value) c.in_ok-methods.ensures in
    let P : ℕ → Type 0 = DeclaresFor c.args.world.now c.args.c.number c.args.name.now c.args.desc.now in
    let first = first_same c.args.world.now (IsTarget c.as_slice-2.result.now) P
    (λ e p. target_declares c.args.world.now c.args.c.number c.args.name.now c.args.desc.now c.as_slice.result.now exact e (subst (λ (ts : List ClassId). IsTarget ts e) (c.as_slice-2.ensures.value ∙ c.in_ok-targets.ensures) p))
    (λ e p. subst (λ (ts : List ClassId). IsTarget ts e) (sym (c.as_slice-2.ensures.value ∙ c.in_ok-targets.ensures)) (declares_target c.args.world.now c.args.c.number c.args.name.now c.args.desc.now c.as_slice.result.now exact e p))
    c.args.c.number c.in-Some.d.number c.in-Some.ensures.found in (
      c.in-Some-interface_method_of.ensures.found.1.0,
      subst (λ (d : ClassId). IsFirst c.args.world.now P c.args.c.number d.number) (sym c.in-Some-interface_method_of.ensures.found.0) first,
    )
