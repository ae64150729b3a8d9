use Rattle.jv_typing_laws.proofs.Forced.{one_forced}
use Rattle.jv_typing_laws.proofs.one_table.forced_frame_is_one.Goals as goal

pub returns : goal.returns
returns c = one_forced
