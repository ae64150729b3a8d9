use Rattle.av_hierarchy.proofs.Finding.{NoneBefore}
use Rattle.av_hierarchy.proofs.finals.has_overriding.Given as goal

abbrev pub invariant-loop-index : goal.invariant-loop-index
invariant-loop-index l = NoneBefore l.world l.c.number l.index
