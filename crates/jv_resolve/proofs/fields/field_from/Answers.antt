-- The targets are the classes that declare the field.
use Rattle.std.proofs.Common.{ℕ, sym, subst}
use Rattle.jv_types.specs.declared.ids.ClassId.{ClassId}
use Rattle.jv_resolve.specs.DepthFirst.{IsFirst}
use Rattle.jv_resolve.specs.Resolving.{DeclaresFieldIn}
use Rattle.jv_resolve.specs.Steps.Targets.{IsTarget, AreDeclaring}
use Rattle.jv_resolve.proofs.AboveLemmas.{first_holds}
use Rattle.jv_resolve.proofs.FieldLemmas.{fields_here, field_target, target_field, field_leads, first_above_same}
use Rattle.jv_resolve.proofs.fields.field_from.Goals as goal

pub first_target-requires-clause-targets_here : goal.first_target-requires-clause-targets_here
first_target-requires-clause-targets_here c =
    let exact = subst (AreDeclaring c.args.world.now c.args.c.number c.args.name.now c.args.desc.now) (sym c.as_slice.ensures.value) c.in_ok-targets.ensures in
    fields_here c.args.world.now c.args.c.number c.args.name.now c.args.desc.now c.as_slice.result.now c.requires exact

pub returns-in_default-clause-none : goal.returns-in_default-clause-none
returns-in_default-clause-none c = λ leads.
    let exact = subst (AreDeclaring c.args.world.now c.args.c.number c.args.name.now c.args.desc.now) (sym c.as_slice.ensures.value) c.in_ok-targets.ensures in
    c.in_default.ensures.none (field_leads c.args.world.now c.args.c.number c.args.name.now c.args.desc.now c.as_slice.result.now exact leads)

pub declared_field-requires : goal.declared_field-requires
declared_field-requires c =
    let exact = subst (AreDeclaring c.args.world.now c.args.c.number c.args.name.now c.args.desc.now) (sym c.as_slice.ensures.value) c.in_ok-targets.ensures in
    let target = first_holds c.args.world.now (IsTarget c.as_slice.result.now) c.args.c.number c.in-Some.d.number c.in-Some.ensures.found in
    (fields_here c.args.world.now c.args.c.number c.args.name.now c.args.desc.now c.as_slice.result.now c.requires exact).here c.in-Some.d target

pub unreachable-requires : goal.unreachable-requires
unreachable-requires c =
    let exact = subst (AreDeclaring c.args.world.now c.args.c.number c.args.name.now c.args.desc.now) (sym c.as_slice.ensures.value) c.in_ok-targets.ensures in
    let target = first_holds c.args.world.now (IsTarget c.as_slice.result.now) c.args.c.number c.in-Some.d.number c.in-Some.ensures.found in
    let declares = target_field c.args.world.now c.args.c.number c.args.name.now c.args.desc.now c.as_slice.result.now exact c.in-Some.d.number target in
    c.in_default-declared_field.ensures.none declares.0 declares.2 declares.1

pub returns-clause-found : goal.returns-clause-found
returns-clause-found c =
    let exact = subst (AreDeclaring c.args.world.now c.args.c.number c.args.name.now c.args.desc.now) (sym c.as_slice.ensures.value) c.in_ok-targets.ensures in
    let P : ℕ → Type 0 = DeclaresFieldIn c.args.world.now c.args.name.now c.args.desc.now in
    let first = first_above_same c.args.world.now (IsTarget c.as_slice.result.now) P c.args.c.number c.in-Some.d.number
    (λ e s p. target_field c.args.world.now c.args.c.number c.args.name.now c.args.desc.now c.as_slice.result.now exact e p)
    (λ e s p. field_target c.args.world.now c.args.c.number c.args.name.now c.args.desc.now c.as_slice.result.now exact e s p) c.in-Some.ensures.found in (
      c.in-Some-declared_field.ensures.found.1,
      subst (λ (d : ClassId). IsFirst c.args.world.now P c.args.c.number d.number) (sym c.in-Some-declared_field.ensures.found.0) first,
    )
