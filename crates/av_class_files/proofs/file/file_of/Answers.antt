-- The class has the methods of the sketch.
use Rattle.std.proofs.Common.{List, sym, subst}
use Rattle.av_sketches.specs.declared.sketch.SketchedMethod.{SketchedMethod}
use Rattle.av_class_files.specs.Steps.{MayAllBePut}
use Rattle.av_class_files.proofs.There.{methods_there}
use Rattle.av_class_files.proofs.file.file_of.Goals as goal

pub add_methods-requires-clause-may : goal.add_methods-requires-clause-may
add_methods-requires-clause-may c =
    let w = c.args.world.now in
    let sketch = c.args.sketch.now in
    subst (λ (methods : List SketchedMethod). MayAllBePut w c.class_of.result.number c.args.dims sketch.name methods) (sym c.as_slice.ensures)
    (methods_there w c.class_of.result.number c.args.dims sketch c.requires.there c.class_of.ensures.world.numbered.distinct c.class_of.ensures.named c.requires.fits)
