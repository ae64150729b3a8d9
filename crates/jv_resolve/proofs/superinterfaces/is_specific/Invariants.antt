-- None of the methods so far is one of a proper subinterface.
use Rattle.jv_types.specs.declared.ids.MethodId.{MethodId}
use Rattle.jv_world.specs.Worlds.{ProperSub}
use Rattle.jv_world.specs.MemberPlaces.{NoneBelow}
use Rattle.jv_resolve.proofs.superinterfaces.is_specific.Given as goal

abbrev pub invariant-loop-other : goal.invariant-loop-other
invariant-loop-other l = NoneBelow (λ (other : MethodId). ProperSub l.world other.class.number l.m.class.number) l.methods l.other-index
