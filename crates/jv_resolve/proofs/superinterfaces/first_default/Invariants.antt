-- None of the methods so far is maximally specific and not abstract.
use Rattle.jv_resolve.specs.Steps.Among.{IsDefaultAmong}
use Rattle.jv_world.specs.MemberPlaces.{NoneBelow}
use Rattle.jv_resolve.proofs.superinterfaces.first_default.Given as goal

abbrev pub invariant-loop-m : goal.invariant-loop-m
invariant-loop-m l = NoneBelow (IsDefaultAmong l.world l.methods) l.methods l.m-index
