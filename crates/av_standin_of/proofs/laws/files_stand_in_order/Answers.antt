-- The classes stand in the order of the names of their files.
use Rattle.av_standin_of.proofs.Named.{in_order}
use Rattle.av_standin_of.proofs.laws.files_stand_in_order.Goals as goal

pub returns : goal.returns
returns c = in_order
