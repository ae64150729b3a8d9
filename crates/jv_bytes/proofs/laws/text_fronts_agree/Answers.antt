use Rattle.jv_bytes.proofs.Utf8Laws.{text_front}
use Rattle.jv_bytes.proofs.laws.text_fronts_agree.Goals as goal

pub returns : goal.returns
returns c = text_front
