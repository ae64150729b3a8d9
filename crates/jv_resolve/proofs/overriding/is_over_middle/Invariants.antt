-- None of the classes so far has a method that stands between.
use Rattle.jv_types.specs.declared.ids.ClassId.{ClassId}
use Rattle.jv_resolve.specs.Overriding.{HasMiddle}
use Rattle.jv_world.specs.MemberPlaces.{NoneBelow}
use Rattle.jv_resolve.proofs.overriding.is_over_middle.Given as goal

abbrev pub invariant-loop-c : goal.invariant-loop-c
invariant-loop-c l = NoneBelow (λ (d : ClassId). HasMiddle l.world l.a l.b d.number) l.c-items l.c-index
