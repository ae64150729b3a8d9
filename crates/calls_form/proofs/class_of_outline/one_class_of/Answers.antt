-- Both are read the same way.
use Rattle.calls_form.proofs.ClassesOutline.{one_class}
use Rattle.calls_form.proofs.class_of_outline.one_class_of.Goals as goal

pub returns : goal.returns
returns c = one_class
