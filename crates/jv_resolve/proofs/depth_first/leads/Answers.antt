-- Each target is looked at.
use Rattle.std.proofs.Common.{get_or}
use Rattle.std.proofs.lemmas.List.Elements.{Contains-get_or}
use Rattle.jv_types.specs.declared.ids.ClassId.{ClassId}
use Rattle.jv_world.specs.Worlds.{Sub}
use Rattle.jv_resolve.specs.DepthFirst.{LeadsUpTo}
use Rattle.jv_resolve.specs.Steps.Targets.{IsTarget}
use Rattle.jv_resolve.proofs.MembersLemmas.{no_class}
use Rattle.jv_resolve.proofs.PlacesLemmas.{none_next, none_among}
use Rattle.jv_resolve.proofs.Tests.{denied, never}
use Rattle.jv_resolve.proofs.depth_first.leads.Goals as goal

pub sub-requires-clause-b_here : goal.sub-requires-clause-b_here
sub-requires-clause-b_here c =
    let d = get_or c.args.targets.now c.loop-target.target-index no_class in
    c.requires.targets_here.here d (Contains-get_or c.args.targets.now c.loop-target.target-index no_class c.loop-target-test.true)

pub loop-target-preserved : goal.loop-target-preserved
loop-target-preserved c =
    none_next (λ (t : ClassId). Sub c.args.world.now c.args.c.number t.number) c.args.targets.now c.loop-target.target-index no_class c.loop-target-test.true
    (denied c.sub.result c.if-sub.false c.sub.ensures.exact.1) c.loop-target.invariant

pub returns : goal.returns
returns c = never (LeadsUpTo c.args.world.now (IsTarget c.args.targets.now) c.args.c.number)
    (λ h.
    let t : ClassId = record { number = h.0 } in
    none_among (λ (t : ClassId). Sub c.args.world.now c.args.c.number t.number) c.args.targets.now c.loop-target.target-index t c.loop-target-test.false c.loop-target.invariant h.2 h.1)
