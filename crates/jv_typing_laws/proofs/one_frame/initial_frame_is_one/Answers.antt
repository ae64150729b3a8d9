use Rattle.jv_typing_laws.proofs.OneFrame.{one_initial}
use Rattle.jv_typing_laws.proofs.one_frame.initial_frame_is_one.Goals as goal

pub returns : goal.returns
returns c = one_initial
