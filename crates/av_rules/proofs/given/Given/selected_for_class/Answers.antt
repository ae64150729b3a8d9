use Rattle.jv_resolve.proofs.Tests.{none_at, ok_none, ok_some, some_at}
use Rattle.jv_types.specs.declared.ids.MethodId.{MethodId}
use Rattle.jv_types.specs.declared.label.LibBase.TheVariants as bases
use Rattle.av_rules.specs.Dispatching.{LabelSelects, on_class, SelectsNone, SelectsOn}
use Rattle.av_rules.specs.Steps.Programs.{program_of}
use Rattle.av_rules.specs.Steps.Selecting.{SelectsInstead}
use Rattle.av_rules.proofs.Here.{type_here}
use Rattle.av_rules.proofs.SelectingLemmas.{class_selects, instead_selects}
use Rattle.av_rules.proofs.given.Given.selected_for_class.Goals as goal

pub selected_on-requires-clause-here : goal.selected_on-requires-clause-here
selected_on-requires-clause-here c =
    type_here (program_of c.args.self.now) c.args.label (record { base = bases.Class c.args.own; dims = 0 }) c.requires.typed

pub returns-in-Some-clause-found : goal.returns-in-Some-clause-found
returns-in-Some-clause-found c =
    let w = c.args.self.now.world.now in
    on_class c.args.own c.requires.typed
    (some_at c.in_ok-found.found c.in-Some.m (SelectsOn w c.args.interface c.args.own.number c.args.resolved) c.in-Some.is c.in_ok-found.ensures.found)

pub returns-in-None-clause-found : goal.returns-in-None-clause-found
returns-in-None-clause-found c =
    let p = program_of c.args.self.now in
    let none = none_at c.in_ok-found.found (SelectsNone p.world c.args.interface c.args.own.number c.args.resolved) c.in-None.is c.in_ok-found.ensures.none in
    ok_some c.selected_instead.result (SelectsInstead p.world c.args.interface c.args.label c.args.resolved) (LabelSelects p c.args.interface c.args.label c.args.resolved)
    (λ m h. instead_selects p c.args.interface c.args.label c.args.resolved m c.args.own c.requires.kept.world.numbered c.requires.kept.analysable.conditions.distinct
    c.requires.typed none h)
    c.selected_instead.ensures.found

pub returns-in-None-clause-none : goal.returns-in-None-clause-none
returns-in-None-clause-none c =
    let p = program_of c.args.self.now in
    let none = none_at c.in_ok-found.found (SelectsNone p.world c.args.interface c.args.own.number c.args.resolved) c.in-None.is c.in_ok-found.ensures.none in
    ok_none c.selected_instead.result ((m : MethodId) → SelectsInstead p.world c.args.interface c.args.label c.args.resolved m → ⊥)
    ((m : MethodId) → LabelSelects p c.args.interface c.args.label c.args.resolved m → ⊥)
    (λ nothing m x. nothing m (class_selects p c.args.interface c.args.label c.args.resolved m c.args.own c.requires.kept.world.numbered
    c.requires.kept.analysable.conditions.distinct c.requires.typed none x))
    c.selected_instead.ensures.none
