-- Bytes have one outline, and an outline has one class.
use Rattle.calls_form.proofs.ClassesFile.{one_object}
use Rattle.calls_form.proofs.read.one_object_class.Goals as goal

pub returns : goal.returns
returns c = one_object
