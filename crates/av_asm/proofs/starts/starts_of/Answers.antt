-- Each turn of the loop is one instruction.
use Rattle.std.proofs.Common.{subst, ℕ, ◌≤◌}
use Rattle.av_asm.proofs.Offsets.{too_long, end_whole}
use Rattle.av_asm.proofs.starts.starts_of.Goals as goal

pub returns-in-None-clause-long : goal.returns-in-None-clause-long
returns-in-None-clause-long c = λ e.
    too_long c.args.steps.now c.loop-step.step-index c.loop-step.pc c.step-item.result c.loop-step.starts.items c.loop-step-test.true c.step-item.is c.loop-step.invariant.so_far c.in-None.ensures.none

pub returns-clause-fits : goal.returns-clause-fits
returns-clause-fits c =
    subst (λ (n : ℕ). n ≤ 65535) (end_whole c.args.steps.now c.loop-step.step-index c.loop-step.pc c.loop-step.starts.items c.loop-step-test.false c.loop-step.invariant.so_far) c.loop-step.invariant.fits
