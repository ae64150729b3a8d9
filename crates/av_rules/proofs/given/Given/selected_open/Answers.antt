use Rattle.jv_resolve.proofs.Tests.{ok_none, ok_some}
use Rattle.jv_types.specs.declared.ids.MethodId.{MethodId}
use Rattle.av_rules.specs.Dispatching.{SelectsNone, SelectsOn}
use Rattle.av_rules.specs.Steps.Selecting.{SelectsOpen}
use Rattle.av_rules.proofs.Here.{class_here}
use Rattle.av_rules.proofs.given.Given.selected_open.Goals as goal

pub returns-in-None-clause-none : goal.returns-in-None-clause-none
returns-in-None-clause-none c = λ m x. c.in-None.ensures x.0 x.1

pub selected_on-requires-clause-here : goal.selected_on-requires-clause-here
selected_on-requires-clause-here c = class_here c.args.self.now.world.now c.args.c.number c.in-Some.field-0.number c.in-Some.ensures

pub returns-in-Some-clause-found : goal.returns-in-Some-clause-found
returns-in-Some-clause-found c =
    let w = c.args.self.now.world.now in
    ok_some c.selected_on.result (SelectsOn w c.args.interface c.args.c.number c.args.resolved) (SelectsOpen w c.args.interface c.args.c c.args.resolved)
    (λ m h. (c.in-Some.field-0.number, c.in-Some.ensures, h)) c.selected_on.ensures.found

pub returns-in-Some-clause-none : goal.returns-in-Some-clause-none
returns-in-Some-clause-none c =
    let w = c.args.self.now.world.now in
    ok_none c.selected_on.result (SelectsNone w c.args.interface c.args.c.number c.args.resolved)
    ((m : MethodId) → SelectsOpen w c.args.interface c.args.c c.args.resolved m → ⊥) (λ none m x. none m x.2) c.selected_on.ensures.none
