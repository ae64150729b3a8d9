-- None of the targets so far is the class.
use Rattle.std.proofs.Common.{◌≡◌}
use Rattle.jv_types.specs.declared.ids.ClassId.{ClassId}
use Rattle.jv_world.specs.MemberPlaces.{NoneBelow}
use Rattle.jv_resolve.proofs.depth_first.is_target.Given as goal

abbrev pub invariant-loop-target : goal.invariant-loop-target
invariant-loop-target l = NoneBelow (λ (t : ClassId). t.number ≡ l.c.number) l.targets l.target-index
