use Rattle.av_one_application.proofs.Collecting.{collected_alike}
use Rattle.av_one_application.proofs.collections.same_applications_collect_alike.Goals as goal

pub returns : goal.returns
returns c = collected_alike c.collected_by_rounds.ensures.grows
