use Rattle.jv_world.proofs.Wholes.{there_yes, there_no}
use Rattle.jv_world.proofs.whole.is_there.Goals as goal

pub returns-in-None : goal.returns-in-None
returns-in-None c = there_no c.args.shapes.now c.args.names.now c.args.name.now c.requires c.in-None.ensures.none

pub returns-in-Some : goal.returns-in-Some
returns-in-Some c = there_yes c.args.shapes.now c.args.names.now c.args.name.now c.in-Some.field-0 c.requires c.in-Some.ensures.found
