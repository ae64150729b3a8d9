use Rattle.std.proofs.Common.{sym, ◌∙◌}
use Rattle.jv_class.proofs.ClassTexts.{one_class, written}
use Rattle.jv_class.proofs.laws.classes_go_both_ways.Goals as goal

pub returns-clause-back : goal.returns-clause-back
returns-clause-back c = λ k d bytes is h text. one_class bytes k d (written k bytes is h) text

pub returns-clause-again : goal.returns-clause-again
returns-clause-again c = λ k bytes read text h. h.spelled ∙ sym text.spelled
