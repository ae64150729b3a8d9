use Rattle.jv_stated.proofs.ShapeLemmas.{shape_made, one_shape}
use Rattle.jv_stated.proofs.classes_have_one_shape.Goals as goal

pub returns-clause-some : goal.returns-clause-some
returns-clause-some _ = shape_made

pub returns-clause-one : goal.returns-clause-one
returns-clause-one _ = one_shape
