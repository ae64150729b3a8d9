-- Each of the methods is looked at.
use Rattle.std.proofs.lemmas.List.Elements.{Contains-get_or}
use Rattle.jv_resolve.specs.Steps.Among.{IsDefaultAmong}
use Rattle.jv_resolve.proofs.MembersLemmas.{no_method}
use Rattle.jv_resolve.proofs.PlacesLemmas.{none_next, none_among}
use Rattle.jv_resolve.proofs.Tests.{denied}
use Rattle.jv_resolve.proofs.superinterfaces.first_default.Goals as goal

pub returns-then-is_default-clause-found : goal.returns-then-is_default-clause-found
returns-then-is_default-clause-found c = (Contains-get_or c.args.methods.now c.loop-m.m-index no_method c.loop-m-test.true, c.is_default.ensures.0 c.if-is_default.true)

pub loop-m-preserved : goal.loop-m-preserved
loop-m-preserved c =
    none_next (IsDefaultAmong c.args.world.now c.args.methods.now) c.args.methods.now c.loop-m.m-index no_method c.loop-m-test.true
    (denied c.is_default.result c.if-is_default.false c.is_default.ensures.1) c.loop-m.invariant

pub returns-clause-none : goal.returns-clause-none
returns-clause-none c = λ m among p.
    none_among (IsDefaultAmong c.args.world.now c.args.methods.now) c.args.methods.now c.loop-m.m-index m c.loop-m-test.false c.loop-m.invariant among p
