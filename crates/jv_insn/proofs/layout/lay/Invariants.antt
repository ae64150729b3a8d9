-- What was laid and what is still laid are all of it.
use Rattle.std.proofs.Common.{length}
use Rattle.jv_insn.proofs.Laying.{LaidSoFar}
use Rattle.jv_insn.proofs.layout.lay.Given as goal

abbrev pub invariant-loop-cursor : goal.invariant-loop-cursor
invariant-loop-cursor l = LaidSoFar l.code l.rows.items l.cursor

abbrev pub decreases-loop-cursor : goal.decreases-loop-cursor
decreases-loop-cursor l = length l.cursor
