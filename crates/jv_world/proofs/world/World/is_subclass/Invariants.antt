use Rattle.jv_world.proofs.Subclasses.{IsReaching}
use Rattle.jv_world.proofs.world.World.is_subclass.Given as goal

abbrev pub invariant-loop-links : goal.invariant-loop-links
invariant-loop-links l = IsReaching l.self l.fn.c.number l.d.number l.links l.class.number
