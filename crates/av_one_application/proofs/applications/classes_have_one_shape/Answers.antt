use Rattle.av_one_application.proofs.Shaping.{Laws, one_shape_of}
use Rattle.av_one_application.proofs.applications.classes_have_one_shape.Goals as goal

pub returns : goal.returns
returns c =
    let laws : Laws = record { fields = c.fields_have_one_text.ensures.reading; methods = c.methods_have_one_text.ensures.reading } in
    one_shape_of laws
