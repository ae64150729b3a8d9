use Rattle.jv_typing_laws.proofs.Forced.{maps_rise}
use Rattle.jv_typing_laws.proofs.one_table.map_frames_rise.Goals as goal

pub returns : goal.returns
returns c = maps_rise
