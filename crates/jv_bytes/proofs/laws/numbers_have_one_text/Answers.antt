use Rattle.jv_bytes.proofs.NumberLaws.{numbers_one}
use Rattle.jv_bytes.proofs.laws.numbers_have_one_text.Goals as goal

pub returns : goal.returns
returns c = numbers_one
