-- What it names is put into a pool of its own.
use Rattle.jv_insn.proofs.Standing.{may_stand}
use Rattle.jv_insn.proofs.laws.fitting_instructions_may_stand.Goals as goal

pub returns : goal.returns
returns c = may_stand
