use Rattle.jv_world.proofs.Linking.{AreRows}
use Rattle.jv_world.proofs.links.links_of.Given as goal

abbrev pub invariant-loop-shape : goal.invariant-loop-shape
invariant-loop-shape l = AreRows l.shapes l.names l.shape-index l.links.items
