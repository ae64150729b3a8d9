use Rattle.std.proofs.Common.{◌<◌}
use Rattle.jv_resolve.proofs.Hierarchy.{named_here}
use Rattle.jv_resolve.proofs.Tests.{ok_none, ok_some}
use Rattle.jv_types.specs.declared.ids.MethodId.{MethodId}
use Rattle.jv_world.specs.Worlds.{object_name}
use Rattle.av_rules.specs.Dispatching.{LabelSelects, on_array, SelectsNone, SelectsOn}
use Rattle.av_rules.specs.Steps.Programs.{program_of}
use Rattle.av_rules.proofs.SelectingLemmas.{array_selects, some_dims}
use Rattle.av_rules.proofs.given.Given.selected_for.Goals as goal

pub selected_on-requires-clause-here : goal.selected_on-requires-clause-here
selected_on-requires-clause-here c = named_here c.args.self.now.world.now c.args.self.now.object.number object_name c.requires.kept.object_named

pub returns-in-Some-clause-found : goal.returns-in-Some-clause-found
returns-in-Some-clause-found c =
    let p = program_of c.args.self.now in
    let array : 0 < c.args.made.dims = some_dims c.args.made.dims c.in-Some.field-0.dims c.in-Some.ensures.found.1 in
    ok_some c.selected_on.result (SelectsOn p.world c.args.interface c.args.self.now.object.number c.args.resolved) (LabelSelects p c.args.interface c.args.label c.args.resolved)
    (λ m h. on_array c.args.made c.args.self.now.object.number c.requires.typed array c.requires.kept.object_named h) c.selected_on.ensures.found

pub returns-in-Some-clause-none : goal.returns-in-Some-clause-none
returns-in-Some-clause-none c =
    let p = program_of c.args.self.now in
    let array : 0 < c.args.made.dims = some_dims c.args.made.dims c.in-Some.field-0.dims c.in-Some.ensures.found.1 in
    ok_none c.selected_on.result (SelectsNone p.world c.args.interface c.args.self.now.object.number c.args.resolved)
    ((m : MethodId) → LabelSelects p c.args.interface c.args.label c.args.resolved m → ⊥)
    (λ none m x. none m (array_selects p c.args.interface c.args.label c.args.resolved m c.args.made c.args.self.now.object.number c.requires.kept.world.numbered
    c.requires.kept.analysable.conditions.distinct c.requires.typed array c.requires.kept.object_named x))
    c.selected_on.ensures.none
