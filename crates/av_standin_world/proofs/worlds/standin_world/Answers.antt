use Rattle.std.proofs.Common.{◌≡◌, ℕ, List, ◌++◌, map, ap, ◌∙◌, sym, subst}
use Rattle.std.specs.List.{filter}
use Rattle.jv_types.specs.declared.shapes.Shape.{Shape}
use Rattle.jv_world.specs.Worlds.{IsWorld}
use Rattle.jv_worlds.proofs.Causes.{none_circular, none_missing, none_wrong}
use Rattle.av_standin_of.specs.Worlds.{kept_class, standin_world}
use Rattle.av_sketches.specs.declared.sketch.Sketch.{Sketch}
use Rattle.av_sketches.specs.Sketches.{made_class}
use Rattle.av_new_world.specs.Conditions.{MayMakeWorld}
use Rattle.av_standin_world.specs.Steps.{is_new_sketch, new_shape}
use Rattle.av_standin_world.proofs.Adding.{added_are}
use Rattle.av_standin_world.proofs.worlds.standin_world.Goals as goal

-- the list of shapes is the stand-in's world
made_is : (w : List Shape) (sketches : List Sketch) (kept shapes : List Shape) (dims : ℕ) → kept ≡ map kept_class w → shapes ≡ kept ++ map new_shape (filter (is_new_sketch w) sketches)
    → shapes ≡ standin_world w (map (made_class dims) sketches)
made_is w sketches kept shapes dims kept_is shapes_are =
    shapes_are
    ∙ ap (λ (all : List Shape). all ++ map new_shape (filter (is_new_sketch w) sketches)) kept_is
    ∙ ap (λ (all : List Shape). map kept_class w ++ all) (added_are w dims sketches)

world_is : (w : List Shape) (sketches : List Sketch) (kept shapes : List Shape) → kept ≡ map kept_class w → shapes ≡ kept ++ map new_shape (filter (is_new_sketch w) sketches)
    → ((dims : ℕ) → IsWorld w → MayMakeWorld w dims (map (made_class dims) sketches) → IsWorld (standin_world w (map (made_class dims) sketches)))
    → IsWorld w → (dims : ℕ) × MayMakeWorld w dims (map (made_class dims) sketches) → IsWorld shapes
world_is w sketches kept shapes kept_is shapes_are law world (dims, may) =
    subst IsWorld (sym (made_is w sketches kept shapes dims kept_is shapes_are)) (law dims world may)

pub build-requires : goal.build-requires
build-requires c =
    (world_is c.args.world.now c.args.sketches.now c.in_ok-kept.kept.items c.in_ok-shapes.shapes.items c.in_ok-kept.ensures.kept c.in_ok-shapes.ensures (λ dims. c.standins_make_a_world.ensures c.args.world.now dims (map (made_class dims) c.args.sketches.now)) c.in_ok-kept.ensures.world c.requires).numbered

pub returns-in-Ok : goal.returns-in-Ok
returns-in-Ok c = λ dims. c.in-Ok.ensures.built ∙ made_is c.args.world.now c.args.sketches.now c.in_ok-kept.kept.items c.in_ok-shapes.shapes.items dims c.in_ok-kept.ensures.kept c.in_ok-shapes.ensures

pub unreachable-requires : goal.unreachable-requires
unreachable-requires c =
    none_missing c.in_ok-shapes.shapes.items (world_is c.args.world.now c.args.sketches.now c.in_ok-kept.kept.items c.in_ok-shapes.shapes.items c.in_ok-kept.ensures.kept c.in_ok-shapes.ensures (λ dims. c.standins_make_a_world.ensures c.args.world.now dims (map (made_class dims) c.args.sketches.now)) c.in_ok-kept.ensures.world c.requires)
    c.in-Err-Missing.field-0 c.in-Err-Missing.field-0-0 c.in-Err-Missing.ensures.refused c.in-Err-Missing.field-0-is

pub unreachable-requires-in-Err-Circular : goal.unreachable-requires-in-Err-Circular
unreachable-requires-in-Err-Circular c =
    none_circular c.in_ok-shapes.shapes.items (world_is c.args.world.now c.args.sketches.now c.in_ok-kept.kept.items c.in_ok-shapes.shapes.items c.in_ok-kept.ensures.kept c.in_ok-shapes.ensures (λ dims. c.standins_make_a_world.ensures c.args.world.now dims (map (made_class dims) c.args.sketches.now)) c.in_ok-kept.ensures.world c.requires)
    c.in-Err-Circular.field-0 c.in-Err-Circular.field-0-0 c.in-Err-Circular.ensures.refused c.in-Err-Circular.field-0-is

pub unreachable-requires-in-Err-SuperKind : goal.unreachable-requires-in-Err-SuperKind
unreachable-requires-in-Err-SuperKind c =
    none_wrong c.in_ok-shapes.shapes.items (world_is c.args.world.now c.args.sketches.now c.in_ok-kept.kept.items c.in_ok-shapes.shapes.items c.in_ok-kept.ensures.kept c.in_ok-shapes.ensures (λ dims. c.standins_make_a_world.ensures c.args.world.now dims (map (made_class dims) c.args.sketches.now)) c.in_ok-kept.ensures.world c.requires)
    c.in-Err-SuperKind.field-0 c.in-Err-SuperKind.field-0-0 c.in-Err-SuperKind.ensures.refused c.in-Err-SuperKind.field-0-is
