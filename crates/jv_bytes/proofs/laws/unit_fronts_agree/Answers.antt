use Rattle.jv_bytes.proofs.Utf8Laws.{one_front}
use Rattle.jv_bytes.proofs.laws.unit_fronts_agree.Goals as goal

pub returns : goal.returns
returns c = λ u v a b x y. one_front a b x y u v
