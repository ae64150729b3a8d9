use Rattle.jv_typing_laws.proofs.FormedFrames.{step_formed}
use Rattle.jv_typing_laws.proofs.CellSteps.{step_of}
use Rattle.jv_typing_laws.proofs.formed.steps_keep_form.Goals as goal

pub returns : goal.returns
returns c = λ w site frame insn after own f typing. step_formed insn frame after (step_of w site frame insn after own f typing) f
