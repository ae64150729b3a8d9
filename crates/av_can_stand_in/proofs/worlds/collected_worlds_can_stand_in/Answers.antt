use Rattle.av_can_stand_in.proofs.Making.{can_stand_in}
use Rattle.av_can_stand_in.proofs.worlds.collected_worlds_can_stand_in.Goals as goal

pub returns : goal.returns
returns _ = can_stand_in
