use Rattle.jv_typing_laws.proofs.CellSteps.{step_of}
use Rattle.jv_typing_laws.proofs.KindsSaid.{step_says}
use Rattle.jv_typing_laws.proofs.kind_safe.typed_steps_leave_kinds.Goals as goal

pub returns : goal.returns
returns c = λ w site frame insn after own f typing. step_says insn frame after own f (step_of w site frame insn after own f typing)
