use Rattle.calls_model.proofs.Objects.{leads_keep}
use Rattle.calls_model.proofs.first.runs_keep_objects.Goals as goal

pub returns : goal.returns
returns c = leads_keep
