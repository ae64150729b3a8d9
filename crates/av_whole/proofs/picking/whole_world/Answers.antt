use Rattle.std.proofs.Common.{List, sym, subst}
use Rattle.jv_types.specs.declared.shapes.Shape.{Shape}
use Rattle.jv_world.specs.Worlds.{IsWorld}
use Rattle.av_whole.specs.WholeClasses.{HasWholeClasses}
use Rattle.av_whole.proofs.Built.{circular_no_memory, kind_no_memory, missing_no_memory, no_cause, numbered_part, whole_built}
use Rattle.av_whole.proofs.picking.whole_world.Goals as goal

pub build-requires : goal.build-requires
build-requires c = numbered_part c.args.shapes.now c.in_ok-kept.kept.items c.requires c.in_ok-kept.ensures

pub returns-in-Ok : goal.returns-in-Ok
returns-in-Ok c =
    let world = subst (λ (l : List Shape). IsWorld l) c.in-Ok.ensures.built c.in-Ok.ensures.world in
    subst (λ (l : List Shape). HasWholeClasses c.args.shapes.now l) (sym c.in-Ok.ensures.built)
    (whole_built c.args.shapes.now c.in_ok-kept.kept.items c.requires c.in_ok-kept.ensures world)

pub unreachable-requires : goal.unreachable-requires
unreachable-requires c =
    no_cause c.args.shapes.now c.in_ok-kept.kept.items c.requires c.in_ok-kept.ensures c.in-Err-Missing.field-0 c.in-Err-Missing.ensures.refused
    (missing_no_memory c.in-Err-Missing.field-0 c.in-Err-Missing.field-0-0 c.in-Err-Missing.field-0-is)

pub unreachable-requires-in-Err-Circular : goal.unreachable-requires-in-Err-Circular
unreachable-requires-in-Err-Circular c =
    no_cause c.args.shapes.now c.in_ok-kept.kept.items c.requires c.in_ok-kept.ensures c.in-Err-Circular.field-0 c.in-Err-Circular.ensures.refused
    (circular_no_memory c.in-Err-Circular.field-0 c.in-Err-Circular.field-0-0 c.in-Err-Circular.field-0-is)

pub unreachable-requires-in-Err-SuperKind : goal.unreachable-requires-in-Err-SuperKind
unreachable-requires-in-Err-SuperKind c =
    no_cause c.args.shapes.now c.in_ok-kept.kept.items c.requires c.in_ok-kept.ensures c.in-Err-SuperKind.field-0 c.in-Err-SuperKind.ensures.refused
    (kind_no_memory c.in-Err-SuperKind.field-0 c.in-Err-SuperKind.field-0-0 c.in-Err-SuperKind.field-0-is)
