-- Each proper supertype is looked at, and then the class itself.
use Rattle.std.proofs.Common.{◌+◌, ◌∙◌, sym, ap, subst, get_or, List, Vec, Global}
use Rattle.std.proofs.lemmas.List.Elements.{Contains-get_or}
use Rattle.std.proofs.lemmas.Option.{slice_get-get_or}
use Rattle.jv_types.specs.declared.ids.ClassId.{ClassId}
use Rattle.jv_resolve.specs.Steps.Targets.{AreDeclaring}
use Rattle.jv_resolve.proofs.Hierarchy.{proper_here}
use Rattle.jv_resolve.proofs.MembersLemmas.{no_class}
use Rattle.jv_resolve.proofs.FieldLemmas.{AreDeclaringSoFar, fields_none, fields_more, fields_own, fields_end}
use Rattle.jv_resolve.proofs.Tests.{denied}
use Rattle.jv_resolve.proofs.fields.declaring_classes.Goals as goal
use Rattle.jv_resolve.proofs.fields.declaring_classes.Goals.{then-declares_field+in_ok-push, else-declares_field, then-declares_field-2+in_ok-push-2, else-declares_field-2}

pub declares_field-requires : goal.declares_field-requires
declares_field-requires c =
    let d = get_or c.proper_supers-supers.result.now c.loop-d.d-index no_class in
    proper_here c.args.world.now c.args.c.number d.number (c.proper_supers-supers.ensures.exact.only d (Contains-get_or c.proper_supers-supers.result.now c.loop-d.d-index no_class c.loop-d-test.true))

pub loop-d-preserved : goal.loop-d-preserved
loop-d-preserved c =
    let d = get_or c.proper_supers-supers.result.now c.loop-d.d-index no_class in
    let at = slice_get-get_or c.proper_supers-supers.result.now c.loop-d.d-index no_class c.loop-d-test.true in
    let super = c.proper_supers-supers.ensures.exact.only d (Contains-get_or c.proper_supers-supers.result.now c.loop-d.d-index no_class c.loop-d-test.true) in
    let items : Vec ClassId Global → List ClassId = λ v. v.items in
    elim c.if-declares_field.branch [
      | then-declares_field+in_ok-push w ↦
          subst (AreDeclaringSoFar c.args.world.now c.args.c.number c.args.name.now c.args.desc.now c.proper_supers-supers.result.now (c.loop-d.d-index + 1))
          (sym (ap items w.found-is ∙ w.in_ok-push.ensures.items))
          (fields_more c.args.world.now c.args.c.number c.args.name.now c.args.desc.now c.proper_supers-supers.result.now c.loop-d.d-index c.loop-d.found.items d
          at super (c.declares_field.ensures.0 w.if-declares_field.true) c.loop-d.invariant)
      | else-declares_field w ↦
          subst (AreDeclaringSoFar c.args.world.now c.args.c.number c.args.name.now c.args.desc.now c.proper_supers-supers.result.now (c.loop-d.d-index + 1))
          (sym (ap items w.found-is))
          (fields_none c.args.world.now c.args.c.number c.args.name.now c.args.desc.now c.proper_supers-supers.result.now c.loop-d.d-index c.loop-d.found.items d
          at (denied c.declares_field.result w.if-declares_field.false c.declares_field.ensures.1) c.loop-d.invariant)
    ]

pub returns : goal.returns
returns c =
    let items : Vec ClassId Global → List ClassId = λ v. v.items in
    elim c.if-declares_field-2.branch [
      | then-declares_field-2+in_ok-push-2 w ↦
          subst (AreDeclaring c.args.world.now c.args.c.number c.args.name.now c.args.desc.now)
          (sym (ap items w.found-is ∙ w.in_ok-push-2.ensures.items))
          (fields_own c.args.world.now c.args.c c.args.name.now c.args.desc.now c.proper_supers-supers.result.now c.loop-d.d-index c.loop-d.found.items c.loop-d-test.false
          c.proper_supers-supers.ensures.exact (c.declares_field-2.ensures.0 w.if-declares_field-2.true) c.loop-d.invariant)
      | else-declares_field-2 w ↦
          subst (AreDeclaring c.args.world.now c.args.c.number c.args.name.now c.args.desc.now)
          (sym (ap items w.found-is))
          (fields_end c.args.world.now c.args.c c.args.name.now c.args.desc.now c.proper_supers-supers.result.now c.loop-d.d-index c.loop-d.found.items c.loop-d-test.false
          c.proper_supers-supers.ensures.exact (denied c.declares_field-2.result w.if-declares_field-2.false c.declares_field-2.ensures.1) c.loop-d.invariant)
    ]
