use Rattle.std.proofs.Common.{get_or}
use Rattle.std.proofs.lemmas.List.{get_or_default}
use Rattle.std.proofs.lemmas.List.Elements.{Contains-get_or}
use Rattle.jv_types.specs.declared.ids.ClassId.{ClassId}
use Rattle.jv_resolve.proofs.Hierarchy.{proper_here}
use Rattle.jv_resolve.proofs.MembersLemmas.{no_class}
use Rattle.jv_resolve.proofs.Tests.{never, yes}
use Rattle.av_hierarchy.specs.Steps.Finals.{MethodOverridesFinal, OverridesFinalOf}
use Rattle.av_hierarchy.proofs.Among.{denied, none_more, none_of_all, none_start}
use Rattle.av_hierarchy.proofs.Finding.{in_super, of_super}
use Rattle.av_hierarchy.proofs.finals.overrides_final.Goals as goal

pub overrides_final_of-requires-clause-here : goal.overrides_final_of-requires-clause-here
overrides_final_of-requires-clause-here c =
    let d = get_or c.proper_supers-supers.result.now c.loop-d.d-index no_class in
    proper_here c.args.world.now c.args.m.class.number d.number (c.proper_supers-supers.ensures.exact.only d (Contains-get_or c.proper_supers-supers.result.now c.loop-d.d-index no_class c.loop-d-test.true))

pub loop-d-init : goal.loop-d-init
loop-d-init c = none_start (λ (d : ClassId). OverridesFinalOf c.args.world.now c.args.m d.number) c.proper_supers-supers.result.now

pub loop-d-preserved : goal.loop-d-preserved
loop-d-preserved c =
    let d = get_or c.proper_supers-supers.result.now c.loop-d.d-index no_class in
    none_more (λ (d : ClassId). OverridesFinalOf c.args.world.now c.args.m d.number) c.proper_supers-supers.result.now c.loop-d.d-index d c.loop-d-test.true
    (get_or_default c.proper_supers-supers.result.now c.loop-d.d-index no_class d c.loop-d-test.true)
    (denied c.overrides_final_of.result c.if-overrides_final_of.false c.overrides_final_of.ensures.1) c.loop-d.invariant

pub returns-then-overrides_final_of : goal.returns-then-overrides_final_of
returns-then-overrides_final_of c =
    let d = get_or c.proper_supers-supers.result.now c.loop-d.d-index no_class in
    yes (MethodOverridesFinal c.args.world.now c.args.m)
    (of_super c.args.world.now c.args.m d.number c.proper_supers-supers.ensures.world
    (c.proper_supers-supers.ensures.exact.only d (Contains-get_or c.proper_supers-supers.result.now c.loop-d.d-index no_class c.loop-d-test.true))
    (c.overrides_final_of.ensures.0 c.if-overrides_final_of.true))

pub returns : goal.returns
returns c =
    never (MethodOverridesFinal c.args.world.now c.args.m)
    (λ (p : MethodOverridesFinal c.args.world.now c.args.m).
    let q = in_super c.args.world.now c.args.m c.requires.distinct p in
    let d : ClassId = record { number = q.0 } in
    none_of_all (λ (d : ClassId). OverridesFinalOf c.args.world.now c.args.m d.number) c.proper_supers-supers.result.now c.loop-d.d-index d c.loop-d-test.false c.loop-d.invariant
    (c.proper_supers-supers.ensures.exact.all d q.1) q.2)
