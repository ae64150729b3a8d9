use Rattle.jv_world.proofs.SuperKinds.{shape_at, shape_nowhere}
use Rattle.jv_world.proofs.causes.shape_named.Goals as goal

pub returns-in-None-clause-none : goal.returns-in-None-clause-none
returns-in-None-clause-none c = shape_nowhere c.args.shapes.now c.args.names.now c.args.name.now c.requires.names c.in-None.ensures.none

pub returns-in-Some-clause-found : goal.returns-in-Some-clause-found
returns-in-Some-clause-found c =
    shape_at c.args.shapes.now c.args.names.now c.args.name.now c.in-Some.place c.index-shapes-place.result c.requires.names c.in-Some.ensures.found c.index-shapes-place.is
