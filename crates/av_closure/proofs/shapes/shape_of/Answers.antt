use Rattle.av_closure.proofs.ClassLemmas.{no_file, shape_found, shape_none}
use Rattle.av_closure.proofs.shapes.shape_of.Goals as goal

pub returns-in-None-clause-none : goal.returns-in-None-clause-none
returns-in-None-clause-none c = no_file c.args.files.now c.args.name.now c.in-None.ensures.none

pub returns-in-Some-clause-found : goal.returns-in-Some-clause-found
returns-in-Some-clause-found c = shape_found c.args.files.now c.args.name.now c.in-Some.file.now c.shape.result c.in-Some.ensures.found.0 c.in-Some.ensures.found.1 c.shape.ensures

pub returns-in-Some-clause-none : goal.returns-in-Some-clause-none
returns-in-Some-clause-none c = shape_none c.args.files.now c.args.name.now c.in-Some.file.now c.shape.result c.requires.library c.in-Some.ensures.found.0 c.in-Some.ensures.found.1 c.shape.ensures
