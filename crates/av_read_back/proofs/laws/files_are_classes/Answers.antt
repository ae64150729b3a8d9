use Rattle.av_read_back.proofs.Classes.{is_class, is_text}
use Rattle.av_read_back.proofs.laws.files_are_classes.Goals as goal

pub returns-clause-form : goal.returns-clause-form
returns-clause-form c = is_class

pub returns-clause-text : goal.returns-clause-text
returns-clause-text c = is_text
