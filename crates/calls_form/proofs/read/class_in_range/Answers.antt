-- The counts and the numbers of a file have two bytes, and an instruction has a byte or more.
use Rattle.calls_form.proofs.ClassesFile.{in_range}
use Rattle.calls_form.proofs.read.class_in_range.Goals as goal

pub returns : goal.returns
returns c = in_range
