use Rattle.jv_desc.proofs.Agreement.{one_desc}
use Rattle.jv_desc.proofs.laws.field_fronts_agree.Goals as goal

pub returns : goal.returns
returns c = one_desc
