-- Each proper supertype is looked at.
use Rattle.std.proofs.Common.{◌+◌, ◌∙◌, sym, ap, subst, get_or, List, Vec, Global}
use Rattle.std.proofs.lemmas.List.Elements.{Contains-get_or}
use Rattle.std.proofs.lemmas.Option.{slice_get-get_or}
use Rattle.jv_types.specs.declared.ids.MethodId.{MethodId}
use Rattle.jv_resolve.proofs.Hierarchy.{proper_here}
use Rattle.jv_resolve.proofs.MembersLemmas.{no_class}
use Rattle.jv_resolve.proofs.SuperinterfaceLemmas.{AreSoFar, far_none, far_more, far_all}
use Rattle.jv_resolve.proofs.superinterfaces.superinterface_methods.Goals as goal
use Rattle.jv_resolve.proofs.superinterfaces.superinterface_methods.Goals.{in-Some+in_ok-push, in_default}

pub interface_method_of-requires : goal.interface_method_of-requires
interface_method_of-requires c =
    let d = get_or c.proper_supers-supers.result.now c.loop-d.d-index no_class in
    proper_here c.args.world.now c.args.c.number d.number (c.proper_supers-supers.ensures.exact.only d (Contains-get_or c.proper_supers-supers.result.now c.loop-d.d-index no_class c.loop-d-test.true))

pub loop-d-preserved : goal.loop-d-preserved
loop-d-preserved c =
    let d = get_or c.proper_supers-supers.result.now c.loop-d.d-index no_class in
    let at = slice_get-get_or c.proper_supers-supers.result.now c.loop-d.d-index no_class c.loop-d-test.true in
    let super = c.proper_supers-supers.ensures.exact.only d (Contains-get_or c.proper_supers-supers.result.now c.loop-d.d-index no_class c.loop-d-test.true) in
    let items : Vec MethodId Global → List MethodId = λ v. v.items in
    elim c.match-interface_method_of.branch [
      | in-Some+in_ok-push w ↦
          subst (AreSoFar c.args.world.now c.args.c.number c.args.name.now c.args.desc.now c.proper_supers-supers.result.now (c.loop-d.d-index + 1))
          (sym (ap items w.found-is ∙ w.in_ok-push.ensures.items))
          (far_more c.args.world.now c.args.c.number c.args.name.now c.args.desc.now c.proper_supers-supers.result.now c.loop-d.d-index c.loop-d.found.items d w.in-Some.m
          at super w.in-Some.ensures.found.0 w.in-Some.ensures.found.1 c.loop-d.invariant)
      | in_default w ↦
          subst (AreSoFar c.args.world.now c.args.c.number c.args.name.now c.args.desc.now c.proper_supers-supers.result.now (c.loop-d.d-index + 1))
          (sym (ap items w.found-is))
          (far_none c.args.world.now c.args.c.number c.args.name.now c.args.desc.now c.proper_supers-supers.result.now c.loop-d.d-index c.loop-d.found.items d
          at w.in_default.ensures.none c.loop-d.invariant)
    ]

pub returns : goal.returns
returns c =
    far_all c.args.world.now c.args.c.number c.args.name.now c.args.desc.now c.proper_supers-supers.result.now c.loop-d.d-index c.loop-d.found.items c.loop-d-test.false
    c.proper_supers-supers.ensures.exact c.loop-d.invariant
