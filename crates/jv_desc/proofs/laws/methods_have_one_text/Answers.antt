use Rattle.std.proofs.Common.{sym, ◌∙◌}
use Rattle.jv_desc.proofs.Agreement.{one_method}
use Rattle.jv_desc.proofs.laws.methods_have_one_text.Goals as goal

pub returns-clause-reading : goal.returns-clause-reading
returns-clause-reading c = one_method

pub returns-clause-text : goal.returns-clause-text
returns-clause-text c = λ a b d p q. p.spelled ∙ sym q.spelled
