-- One class has the name.
use Rattle.std.proofs.Common.{◌≡◌, subst}
use Rattle.jv_resolve.specs.DepthFirst.{LeadsUpTo}
use Rattle.jv_resolve.specs.Steps.Targets.{IsTarget}
use Rattle.jv_resolve.proofs.Hierarchy.{named_here}
use Rattle.jv_resolve.proofs.Tests.{denied}
use Rattle.jv_resolve.proofs.depth_first.leading.Goals as goal

pub returns-in_default-clause-none : goal.returns-in_default-clause-none
returns-in_default-clause-none c = λ d named leads. c.in_default.ensures.none d named

pub leads-requires-clause-here : goal.leads-requires-clause-here
leads-requires-clause-here c = named_here c.args.world.now c.in-Some.d.number c.args.name.now c.in-Some.ensures.found

pub returns-clause-none : goal.returns-clause-none
returns-clause-none c = λ d named leads.
    let one : d ≡ c.in-Some.d.number = c.in-Some.ensures.world.numbered.distinct d c.in-Some.d.number c.args.name.now named c.in-Some.ensures.found in
    denied c.leads.result c.if-leads.false c.leads.ensures.1 (subst (LeadsUpTo c.args.world.now (IsTarget c.args.targets.now)) one leads)
