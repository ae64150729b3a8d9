-- Each is a lemma.
use Rattle.jv_names.proofs.NamedOnce.{one_text, one_type_text}
use Rattle.jv_names.proofs.laws.types_have_one_text.Goals as goal

pub returns : goal.returns
returns c = record { spelling = one_text; one = one_type_text }
