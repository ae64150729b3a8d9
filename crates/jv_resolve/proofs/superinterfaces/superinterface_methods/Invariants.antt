-- The list has the methods of the supertypes so far.
use Rattle.jv_resolve.proofs.SuperinterfaceLemmas.{AreSoFar}
use Rattle.jv_resolve.proofs.superinterfaces.superinterface_methods.Given as goal

abbrev pub invariant-loop-d : goal.invariant-loop-d
invariant-loop-d l = AreSoFar l.world l.fn.c.number l.name l.desc l.supers l.d-index l.found.items
