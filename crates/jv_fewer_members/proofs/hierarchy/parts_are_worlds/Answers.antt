use Rattle.jv_fewer_members.proofs.PartWorlds.{part_world}
use Rattle.jv_fewer_members.proofs.hierarchy.parts_are_worlds.Goals as goal

pub returns : goal.returns
returns _ = λ w v at fewer finals. part_world fewer finals
