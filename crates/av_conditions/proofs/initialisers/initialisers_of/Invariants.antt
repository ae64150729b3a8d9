use Rattle.av_conditions.proofs.Entering.{AreSoFar}
use Rattle.av_conditions.proofs.initialisers.initialisers_of.Given as goal

abbrev pub invariant-loop-d : goal.invariant-loop-d
invariant-loop-d l = AreSoFar l.world l.fn.c.number l.classes l.d-index l.found.items
