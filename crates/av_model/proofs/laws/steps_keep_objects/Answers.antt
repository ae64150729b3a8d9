use Rattle.av_model.proofs.Staying.{step_keeps}
use Rattle.av_model.proofs.laws.steps_keep_objects.Goals as goal

pub returns : goal.returns
returns c = step_keeps
