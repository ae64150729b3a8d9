-- Each turn of the loop is one offset.
use Rattle.std.proofs.Common.{arith}
use Rattle.std.proofs.lemmas.Grind.{common_steps}
use Rattle.std.proofs.lemmas.List.Folds.{list_any-append}
use Rattle.av_asm.proofs.targets.set_of.Goals as goal

pub loop-offset-preserved : goal.loop-offset-preserved
loop-offset-preserved c = λ q. grind (arith, common_steps, list_any-append, c.loop-offset.invariant q)
