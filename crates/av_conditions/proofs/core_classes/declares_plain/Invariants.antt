use Rattle.av_conditions.proofs.PlainMethods.{NonePlain}
use Rattle.av_conditions.proofs.core_classes.declares_plain.Given as goal

abbrev pub invariant-loop-method : goal.invariant-loop-method
invariant-loop-method l = NonePlain l.methods l.name l.method-index
