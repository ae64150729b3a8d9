use Rattle.jv_typing_laws.proofs.OneFrame.{one_step}
use Rattle.jv_typing_laws.proofs.one_frame.typing_has_one_frame.Goals as goal

pub returns : goal.returns
returns c = one_step
