use Rattle.jv_world.proofs.SuperKinds.{interface-none, interface-some}
use Rattle.jv_world.proofs.causes.names_interface.Goals as goal

pub returns-in-None : goal.returns-in-None
returns-in-None c = interface-none c.args.shapes.now c.args.name.now c.in-None.ensures.none

pub returns-in-Some : goal.returns-in-Some
returns-in-Some c =
    interface-some c.args.shapes.now c.args.name.now c.in-Some.other.now c.is_interface.result c.requires.numbered c.in-Some.ensures.found.0 c.in-Some.ensures.found.1 c.is_interface.ensures
