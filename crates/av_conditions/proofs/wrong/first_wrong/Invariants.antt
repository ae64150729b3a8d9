use Rattle.av_conditions.proofs.Standing.{HoldsBefore, IsRightRow}
use Rattle.av_conditions.proofs.wrong.first_wrong.Given as goal

abbrev pub invariant-loop-row : goal.invariant-loop-row
invariant-loop-row l = HoldsBefore (IsRightRow l.world) l.insns l.row-index
