use Rattle.jv_world.proofs.Subtypes.{IsInterfaceNamed-by, IsInterfaceNamed-none}
use Rattle.jv_world.proofs.world.World.is_interface_named.Goals as goal

pub returns-in-None : goal.returns-in-None
returns-in-None c = IsInterfaceNamed-none c.args.self.now c.args.name.now c.in-None.ensures.none

pub returns-in-Some : goal.returns-in-Some
returns-in-Some c =
    IsInterfaceNamed-by c.args.self.now c.in-Some.class.number c.shape.result.now c.args.name.now c.is_interface.result c.shape.ensures.world.numbered
    c.in-Some.ensures.found c.shape.ensures.shape c.is_interface.ensures
