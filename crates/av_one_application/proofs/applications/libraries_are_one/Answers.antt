use Rattle.std.proofs.Common.{false}
use Rattle.av_one_application.proofs.Reading.{one_library}
use Rattle.av_one_application.proofs.applications.libraries_are_one.Goals as goal

pub returns : goal.returns
returns c = one_library c.classes_have_one_text.ensures.class (λ class. c.classes_have_one_shape.ensures class false)
