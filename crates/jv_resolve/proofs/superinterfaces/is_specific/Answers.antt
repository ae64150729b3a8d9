-- Each of the methods is looked at.
use Rattle.std.proofs.Common.{get_or}
use Rattle.std.proofs.lemmas.List.Elements.{Contains-get_or}
use Rattle.jv_types.specs.declared.ids.MethodId.{MethodId}
use Rattle.jv_world.specs.Worlds.{ProperSub}
use Rattle.jv_resolve.specs.Steps.Among.{IsSpecificAmong}
use Rattle.jv_resolve.proofs.MembersLemmas.{class_here, no_method}
use Rattle.jv_resolve.proofs.PlacesLemmas.{none_next, none_among}
use Rattle.jv_resolve.proofs.Tests.{denied, never, yes}
use Rattle.jv_resolve.proofs.superinterfaces.is_specific.Goals as goal

pub is_below-requires-clause-c_here : goal.is_below-requires-clause-c_here
is_below-requires-clause-c_here c =
    let other = get_or c.args.methods.now c.loop-other.other-index no_method in
    class_here c.args.world.now other (c.requires.methods_here.here other (Contains-get_or c.args.methods.now c.loop-other.other-index no_method c.loop-other-test.true))

pub is_below-requires-clause-d_here : goal.is_below-requires-clause-d_here
is_below-requires-clause-d_here c = class_here c.args.world.now c.args.m c.requires.here

pub returns-then-is_below : goal.returns-then-is_below
returns-then-is_below c =
    let other = get_or c.args.methods.now c.loop-other.other-index no_method in
    never (IsSpecificAmong c.args.world.now c.args.methods.now c.args.m)
    (λ p. p other (Contains-get_or c.args.methods.now c.loop-other.other-index no_method c.loop-other-test.true) (c.is_below.ensures.0 c.if-is_below.true))

pub loop-other-preserved : goal.loop-other-preserved
loop-other-preserved c =
    none_next (λ (other : MethodId). ProperSub c.args.world.now other.class.number c.args.m.class.number) c.args.methods.now c.loop-other.other-index no_method c.loop-other-test.true
    (denied c.is_below.result c.if-is_below.false c.is_below.ensures.1) c.loop-other.invariant

pub returns : goal.returns
returns c = yes (IsSpecificAmong c.args.world.now c.args.methods.now c.args.m)
    (λ other among p. none_among (λ (other : MethodId). ProperSub c.args.world.now other.class.number c.args.m.class.number) c.args.methods.now c.loop-other.other-index other
    c.loop-other-test.false c.loop-other.invariant among p)
