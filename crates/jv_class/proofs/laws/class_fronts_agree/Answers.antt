use Rattle.jv_class.proofs.ClassTexts.{no_more}
use Rattle.jv_class.proofs.laws.class_fronts_agree.Goals as goal

pub returns : goal.returns
returns c = no_more
