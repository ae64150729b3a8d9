use Rattle.std.proofs.Common.{◌+◌, ◌∙◌, sym, ap, subst, get_or, List, Vec, Global}
use Rattle.std.proofs.lemmas.List.Elements.{Contains-get_or}
use Rattle.std.proofs.lemmas.Option.{slice_get-get_or}
use Rattle.jv_types.specs.declared.ids.MethodId.{MethodId}
use Rattle.jv_resolve.proofs.Hierarchy.{sub_here}
use Rattle.jv_resolve.proofs.MembersLemmas.{no_class}
use Rattle.av_conditions.specs.Initialisers.{AreLine}
use Rattle.av_conditions.proofs.Entering.{AreSoFar, far_none, far_more, far_all}
use Rattle.av_conditions.proofs.initialisers.initialisers_of.Goals as goal
use Rattle.av_conditions.proofs.initialisers.initialisers_of.Goals.{in-Some+in_ok-push, in_default}

pub own_initialiser-requires-clause-here : goal.own_initialiser-requires-clause-here
own_initialiser-requires-clause-here c =
    let line = c.as_slice-classes.result.now in
    let exact = subst (AreLine c.args.world.now c.args.c.number) (sym c.as_slice-classes.ensures.value) c.in_ok-line.ensures in
    let d = get_or line c.loop-d.d-index no_class in
    sub_here c.args.world.now c.args.c.number d.number c.requires (exact.only d (Contains-get_or line c.loop-d.d-index no_class c.loop-d-test.true))

pub loop-d-preserved : goal.loop-d-preserved
loop-d-preserved c =
    let line = c.as_slice-classes.result.now in
    let exact = subst (AreLine c.args.world.now c.args.c.number) (sym c.as_slice-classes.ensures.value) c.in_ok-line.ensures in
    let d = get_or line c.loop-d.d-index no_class in
    let at = slice_get-get_or line c.loop-d.d-index no_class c.loop-d-test.true in
    let above = exact.only d (Contains-get_or line c.loop-d.d-index no_class c.loop-d-test.true) in
    let items : Vec MethodId Global → List MethodId = λ v. v.items in
    elim c.match-own_initialiser.branch [
      | in-Some+in_ok-push w ↦
          subst (AreSoFar c.args.world.now c.args.c.number line (c.loop-d.d-index + 1))
          (sym (ap items w.found-is ∙ w.in_ok-push.ensures.items))
          (far_more c.args.world.now c.args.c.number line c.loop-d.d-index c.loop-d.found.items d w.in-Some.m at above w.in-Some.ensures.found.0 w.in-Some.ensures.found.1 c.loop-d.invariant)
      | in_default w ↦
          subst (AreSoFar c.args.world.now c.args.c.number line (c.loop-d.d-index + 1))
          (sym (ap items w.found-is))
          (far_none c.args.world.now c.args.c.number line c.loop-d.d-index c.loop-d.found.items d at w.in_default.ensures.none c.loop-d.invariant)
    ]

pub returns : goal.returns
returns c =
    let line = c.as_slice-classes.result.now in
    let exact = subst (AreLine c.args.world.now c.args.c.number) (sym c.as_slice-classes.ensures.value) c.in_ok-line.ensures in
    far_all c.args.world.now c.args.c.number line c.loop-d.d-index c.loop-d.found.items c.loop-d-test.false exact c.loop-d.invariant
