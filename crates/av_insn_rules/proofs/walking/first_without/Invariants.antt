use Rattle.av_conditions.proofs.Standing.{HoldsBefore}
use Rattle.av_insn_rules.specs.InsnRules.{Keeps}
use Rattle.av_insn_rules.proofs.KeptRows.{KeptRow}
use Rattle.av_insn_rules.proofs.walking.first_without.Given as goal

abbrev pub invariant-loop-row : goal.invariant-loop-row
invariant-loop-row l = HoldsBefore (KeptRow (Keeps l.world l.from.number l.major l.rule)) l.insns l.row-index
