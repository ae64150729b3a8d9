use Rattle.av_one_stop.proofs.FirstFiles.{none_loaded, one_stop}
use Rattle.av_one_stop.proofs.files.files_have_one_stop.Goals as goal

pub returns-clause-stop : goal.returns-clause-stop
returns-clause-stop c = λ folders stop other. one_stop c.classes_have_one_text.ensures.class folders stop other

pub returns-clause-apart : goal.returns-clause-apart
returns-clause-apart c = λ folders stop classes. none_loaded c.classes_have_one_text.ensures.class folders stop classes
