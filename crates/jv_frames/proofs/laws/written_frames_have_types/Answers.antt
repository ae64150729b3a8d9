use Rattle.jv_frames.proofs.Written.{frame_exists}
use Rattle.jv_frames.proofs.laws.written_frames_have_types.Goals as goal

pub returns : goal.returns
returns c = frame_exists
