use Rattle.std.proofs.Common.{length}
use Rattle.jv_bytes.proofs.Utf8Laws.{ReadSoFar}
use Rattle.jv_bytes.proofs.utf8.units_of.Given as goal

abbrev pub invariant-loop-rest : goal.invariant-loop-rest
invariant-loop-rest l = ReadSoFar l.bytes l.units.items l.rest

abbrev pub decreases-loop-rest : goal.decreases-loop-rest
decreases-loop-rest l = length l.rest
