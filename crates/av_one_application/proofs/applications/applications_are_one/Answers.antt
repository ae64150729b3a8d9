use Rattle.std.proofs.Common.{true}
use Rattle.av_one_application.proofs.Loading.{one_files}
use Rattle.av_one_application.proofs.Giving.{one_classes, one_given}
use Rattle.av_one_application.proofs.applications.applications_are_one.Goals as goal

pub returns-clause-files : goal.returns-clause-files
returns-clause-files c = one_files c.classes_have_one_text.ensures.class

pub returns-clause-classes : goal.returns-clause-classes
returns-clause-classes c = one_classes (λ class. c.classes_have_one_shape.ensures class true) c.classes_have_one_text.ensures.class

pub returns-clause-given : goal.returns-clause-given
returns-clause-given c = one_given (λ class. c.classes_have_one_shape.ensures class true) c.classes_have_one_text.ensures.class
