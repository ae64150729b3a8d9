use Rattle.jv_bytes.proofs.Utf8Laws.{one_text, one_reading}
use Rattle.jv_bytes.proofs.laws.texts_have_one_spelling.Goals as goal

pub returns-clause-spelling : goal.returns-clause-spelling
returns-clause-spelling c = λ units a b. one_text a b units

pub returns-clause-reading : goal.returns-clause-reading
returns-clause-reading c = one_reading
