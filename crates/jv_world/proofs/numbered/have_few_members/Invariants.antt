use Rattle.std.proofs.Common.{◌<◌, ◌^◌, take, length, All}
use Rattle.jv_world.proofs.numbered.have_few_members.Given as goal

abbrev pub invariant-loop-shape : goal.invariant-loop-shape
invariant-loop-shape l = All (λ s. (length s.fields < 2 ^ 16) × (length s.methods < 2 ^ 16)) (take l.shape-index l.shapes)
