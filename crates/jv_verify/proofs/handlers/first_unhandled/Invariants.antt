use Rattle.std.proofs.Common.{take}
use Rattle.jv_verify.specs.Steps.Checking.{SatisfiesAllAt, FailsSomeAt, IsLeastBad}
use Rattle.jv_verify.proofs.handlers.first_unhandled.Given as goal

abbrev pub invariant-loop-handler : goal.invariant-loop-handler
invariant-loop-handler l = IsLeastBad (SatisfiesAllAt l.world l.rows (take l.handler-index l.handlers)) (FailsSomeAt l.world l.rows (take l.handler-index l.handlers)) l.least
