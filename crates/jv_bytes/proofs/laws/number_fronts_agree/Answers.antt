use Rattle.jv_bytes.proofs.NumberLaws.{number_fronts}
use Rattle.jv_bytes.proofs.laws.number_fronts_agree.Goals as goal

pub returns : goal.returns
returns c = number_fronts
