use Rattle.av_given.specs.Givens.{application_of}
use Rattle.jv_world.specs.Worlds.{IsWorld}
use Rattle.av_build.proofs.Causes.{none_circular, none_missing, none_wrong}
use Rattle.av_build.proofs.worlds.world_of.Goals as goal

pub build-requires : goal.build-requires
build-requires c =
    rw (c.in_ok-shapes.ensures, c.into_vec.ensures, c.into_vec-2.ensures, c.in_ok-front.ensures)
    (c.programs_have_worlds.ensures c.args.app.now.files.items (application_of c.args.app.now.given) c.args.found c.requires.known c.requires.collected c.requires.world).numbered

pub unreachable-requires : goal.unreachable-requires
unreachable-requires c =
    let world : IsWorld c.in_ok-shapes.shapes.items = rw (c.in_ok-shapes.ensures, c.into_vec.ensures, c.into_vec-2.ensures, c.in_ok-front.ensures)
    (c.programs_have_worlds.ensures c.args.app.now.files.items (application_of c.args.app.now.given) c.args.found c.requires.known c.requires.collected c.requires.world) in
    none_missing c.in_ok-shapes.shapes.items world c.in-Err-Missing.field-0 c.in-Err-Missing.field-0-0 c.in-Err-Missing.ensures.refused c.in-Err-Missing.field-0-is

pub unreachable-requires-in-Err-Circular : goal.unreachable-requires-in-Err-Circular
unreachable-requires-in-Err-Circular c =
    let world : IsWorld c.in_ok-shapes.shapes.items = rw (c.in_ok-shapes.ensures, c.into_vec.ensures, c.into_vec-2.ensures, c.in_ok-front.ensures)
    (c.programs_have_worlds.ensures c.args.app.now.files.items (application_of c.args.app.now.given) c.args.found c.requires.known c.requires.collected c.requires.world) in
    none_circular c.in_ok-shapes.shapes.items world c.in-Err-Circular.field-0 c.in-Err-Circular.field-0-0 c.in-Err-Circular.ensures.refused c.in-Err-Circular.field-0-is

pub unreachable-requires-in-Err-SuperKind : goal.unreachable-requires-in-Err-SuperKind
unreachable-requires-in-Err-SuperKind c =
    let world : IsWorld c.in_ok-shapes.shapes.items = rw (c.in_ok-shapes.ensures, c.into_vec.ensures, c.into_vec-2.ensures, c.in_ok-front.ensures)
    (c.programs_have_worlds.ensures c.args.app.now.files.items (application_of c.args.app.now.given) c.args.found c.requires.known c.requires.collected c.requires.world) in
    none_wrong c.in_ok-shapes.shapes.items world c.in-Err-SuperKind.field-0 c.in-Err-SuperKind.field-0-0 c.in-Err-SuperKind.ensures.refused c.in-Err-SuperKind.field-0-is
