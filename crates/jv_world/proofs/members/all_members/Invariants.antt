-- The members of the classes so far.
use Rattle.jv_world.specs.Steps.Ordered.{AreIndexed}
use Rattle.jv_world.proofs.members.all_members.Given as goal

abbrev pub invariant-loop-shape : goal.invariant-loop-shape
invariant-loop-shape l = AreIndexed l.shapes l.shape-index l.rows.items
