use Rattle.jv_frames.proofs.Composing.{compose}
use Rattle.jv_frames.proofs.laws.assignability_is_transitive.Goals as goal

pub returns : goal.returns
returns c = compose
