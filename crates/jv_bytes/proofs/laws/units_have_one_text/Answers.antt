use Rattle.jv_bytes.proofs.Utf8Laws.{some_unit_text, one_unit_text, unit_text-fits}
use Rattle.jv_bytes.proofs.laws.units_have_one_text.Goals as goal

pub returns-clause-some : goal.returns-clause-some
returns-clause-some c = some_unit_text

pub returns-clause-one : goal.returns-clause-one
returns-clause-one c = λ unit a b p q. one_unit_text a b unit p q

pub returns-clause-fits : goal.returns-clause-fits
returns-clause-fits c = unit_text-fits
