-- None of the targets so far is the class or above it.
use Rattle.jv_types.specs.declared.ids.ClassId.{ClassId}
use Rattle.jv_world.specs.Worlds.{Sub}
use Rattle.jv_world.specs.MemberPlaces.{NoneBelow}
use Rattle.jv_resolve.proofs.depth_first.leads.Given as goal

abbrev pub invariant-loop-target : goal.invariant-loop-target
invariant-loop-target l = NoneBelow (λ (t : ClassId). Sub l.world l.c.number t.number) l.targets l.target-index
