use Rattle.jv_typing_laws.proofs.KindsSaid.{assignable_says}
use Rattle.jv_typing_laws.proofs.kind_safe.assignable_frames_say_no_more.Goals as goal

pub returns : goal.returns
returns c = assignable_says
