use Rattle.std.proofs.Common.{take}
use Rattle.jv_world.specs.Steps.Causes.{AreInterfaces}
use Rattle.jv_world.proofs.causes.are_interfaces.Given as goal

abbrev pub invariant-loop-name : goal.invariant-loop-name
invariant-loop-name l = AreInterfaces l.shapes (take l.name-index l.wanted)
