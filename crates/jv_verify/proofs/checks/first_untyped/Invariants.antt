use Rattle.av_conditions.proofs.Standing.{HoldsBefore}
use Rattle.jv_verify.proofs.Asked.{IsTypedRow}
use Rattle.jv_verify.proofs.checks.first_untyped.Given as goal

abbrev pub invariant-loop-row : goal.invariant-loop-row
invariant-loop-row l = HoldsBefore (IsTypedRow l.world l.fn.method l.body l.rows) l.body.insns l.row-index
