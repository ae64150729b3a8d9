use Rattle.std.proofs.Common.{◌≡◌, map, take}
use Rattle.jv_world.proofs.names.Names.of.Given as goal

abbrev pub invariant-loop-shape : goal.invariant-loop-shape
invariant-loop-shape l = map (λ k. k.items) l.keys.keys ≡ map (λ s. s.name) (take l.shape-index l.shapes)
