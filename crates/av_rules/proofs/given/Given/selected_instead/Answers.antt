use Rattle.jv_resolve.proofs.Tests.{ok_none, ok_some}
use Rattle.jv_types.specs.declared.ids.MethodId.{MethodId}
use Rattle.av_rules.specs.Steps.Selecting.{SelectsInstead, SelectsOpen}
use Rattle.av_rules.proofs.SelectingLemmas.{open_of}
use Rattle.av_rules.proofs.given.Given.selected_instead.Goals as goal

pub returns-in-None-clause-none : goal.returns-in-None-clause-none
returns-in-None-clause-none c = λ m x. c.in-None.ensures.none x.0 x.2

pub returns-in-Some-clause-found : goal.returns-in-Some-clause-found
returns-in-Some-clause-found c =
    let w = c.args.self.now.world.now in
    let d = c.in-Some.c in
    ok_some c.selected_open.result (SelectsOpen w c.args.interface d c.args.resolved) (SelectsInstead w c.args.interface c.args.label c.args.resolved)
    (λ m h. (d, h.0, c.in-Some.ensures.found, h.1, h.2)) c.selected_open.ensures.found

pub returns-in-Some-clause-none : goal.returns-in-Some-clause-none
returns-in-Some-clause-none c =
    let w = c.args.self.now.world.now in
    let d = c.in-Some.c in
    ok_none c.selected_open.result ((m : MethodId) → SelectsOpen w c.args.interface d c.args.resolved m → ⊥)
    ((m : MethodId) → SelectsInstead w c.args.interface c.args.label c.args.resolved m → ⊥)
    (λ none m x. none m (open_of w c.args.interface c.args.label d c.args.resolved m c.in-Some.ensures.found x)) c.selected_open.ensures.none
