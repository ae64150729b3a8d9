-- The shape is that of the method.
use Rattle.jv_types.specs.declared.ids.MethodId.{MethodId}
use Rattle.jv_resolve.specs.declared.nearest.Wanted.TheVariants.{Overriding}
use Rattle.jv_resolve.specs.Steps.Wanted.{IsWanted}
use Rattle.jv_resolve.specs.Selecting.{SelectsBy, SelectsVirtual}
use Rattle.jv_resolve.proofs.SelectionLemmas.{virtual_at}
use Rattle.jv_resolve.proofs.Tests.{ok_none}
use Rattle.jv_resolve.proofs.selection.select_virtual.Goals as goal

pub returns-clause-none : goal.returns-clause-none
returns-clause-none c =
    ok_none c.select_by.result
    ((s : MethodId) → SelectsBy c.args.world.now (IsWanted c.args.world.now c.method_shape-shape.result.now.name c.method_shape-shape.result.now.desc (Overriding c.args.m)) c.args.c.number
    c.method_shape-shape.result.now.name c.method_shape-shape.result.now.desc s → ⊥)
    ((s : MethodId) → SelectsVirtual c.args.world.now c.args.c.number c.args.m s → ⊥)
    (λ none s p. none s (virtual_at c.args.world.now c.args.c.number c.args.m c.method_shape-shape.result.now s c.method_shape-shape.ensures p)) c.select_by.ensures.none
