use Rattle.av_model.proofs.NeverWanting.{is_not_wanting}
use Rattle.av_model.proofs.laws.instructions_are_not_wanting.Goals as goal

pub returns : goal.returns
returns c = is_not_wanting
