-- The nearest one is abstract, or there is none.
use Rattle.jv_types.specs.declared.ids.MethodId.{MethodId}
use Rattle.jv_resolve.specs.Members.{IsConcrete}
use Rattle.jv_resolve.specs.Inheriting.{IsSingleDefault}
use Rattle.jv_resolve.specs.Steps.Wanted.{IsWanted}
use Rattle.jv_resolve.specs.Selecting.{SelectsBy}
use Rattle.jv_resolve.proofs.SelectionLemmas.{abstract_nearest, nothing_selected}
use Rattle.jv_resolve.proofs.Tests.{none_weaker, ok_none}
use Rattle.jv_resolve.proofs.selection.select_by.Goals as goal

pub returns-in-Some-clause-none : goal.returns-in-Some-clause-none
returns-in-Some-clause-none c =
    none_weaker c.concrete_only.result (IsConcrete c.args.world.now c.in-Some.m → ⊥)
    ((s : MethodId) → SelectsBy c.args.world.now (IsWanted c.args.world.now c.args.name.now c.args.desc.now c.args.wanted) c.args.c.number c.args.name.now c.args.desc.now s → ⊥)
    (abstract_nearest c.args.world.now c.args.name.now c.args.desc.now c.args.wanted c.args.c.number c.in-Some.m c.in-Some.ensures.world c.in-Some.ensures.found) c.concrete_only.ensures.none

pub returns-clause-none : goal.returns-clause-none
returns-clause-none c =
    ok_none c.default_above.result ((m : MethodId) → IsSingleDefault c.args.world.now c.args.c.number c.args.name.now c.args.desc.now m → ⊥)
    ((s : MethodId) → SelectsBy c.args.world.now (IsWanted c.args.world.now c.args.name.now c.args.desc.now c.args.wanted) c.args.c.number c.args.name.now c.args.desc.now s → ⊥)
    (nothing_selected c.args.world.now (IsWanted c.args.world.now c.args.name.now c.args.desc.now c.args.wanted) c.args.c.number c.args.name.now c.args.desc.now c.in_default.ensures.none) c.default_above.ensures.none
