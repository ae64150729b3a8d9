use Rattle.jv_world.proofs.SuperKinds.{HasRightSuperclass-none, HasRightSuperclass-some}
use Rattle.jv_world.proofs.causes.has_right_superclass.Goals as goal

pub returns-in-None-shape_named : goal.returns-in-None-shape_named
returns-in-None-shape_named c =
    HasRightSuperclass-none c.args.shapes.now c.args.shape.now c.in-Some.name c.in-Some.is c.in-None-shape_named.ensures.none

pub returns-then-not-is_interface : goal.returns-then-not-is_interface
returns-then-not-is_interface c =
    HasRightSuperclass-some c.args.shapes.now c.args.shape.now c.in-Some-shape_named.parent.now c.in-Some.name c.is_interface.result c.is_final.result c.requires.numbered c.in-Some.is
    c.in-Some-shape_named.ensures.found.0 c.in-Some-shape_named.ensures.found.1 c.is_interface.ensures c.is_final.ensures c.if-not-is_interface.true
