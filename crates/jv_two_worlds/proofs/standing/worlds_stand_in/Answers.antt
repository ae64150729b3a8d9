use Rattle.jv_two_worlds.proofs.Renumbered.{longer, in_any_order, onward}
use Rattle.jv_two_worlds.proofs.standing.worlds_stand_in.Goals as goal

pub returns-clause-longer : goal.returns-clause-longer
returns-clause-longer _ = longer

pub returns-clause-in_any_order : goal.returns-clause-in_any_order
returns-clause-in_any_order _ = in_any_order

pub returns-clause-onward : goal.returns-clause-onward
returns-clause-onward _ = onward
