use Rattle.av_limits.proofs.Limits.{passes, passes_none}
use Rattle.av_limits.proofs.laws.counted_limits_are_limits.Goals as goal

pub returns-clause-passes : goal.returns-clause-passes
returns-clause-passes c = λ folders given library names quantity distinct each. passes folders given library names each quantity distinct

pub returns-clause-none : goal.returns-clause-none
returns-clause-none c = λ folders given library names those none few. passes_none folders given library names those none few
