use Rattle.std.proofs.Common.{sym, ◌∙◌}
use Rattle.jv_class.proofs.ClassTexts.{one_class}
use Rattle.jv_class.proofs.laws.classes_have_one_text.Goals as goal

pub returns-clause-class : goal.returns-clause-class
returns-clause-class c = one_class

pub returns-clause-text : goal.returns-clause-text
returns-clause-text c = λ a b k p q. p.spelled ∙ sym q.spelled
