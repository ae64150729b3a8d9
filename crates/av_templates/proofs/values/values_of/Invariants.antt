use Rattle.av_templates.proofs.Params.{ArePut}
use Rattle.av_templates.proofs.values.values_of.Given as goal

abbrev pub invariant-loop-of : goal.invariant-loop-of
invariant-loop-of l = ArePut l.at.words l.at.types.items l.fn.stack.items l.stack.items l.descs l.of-index l.fn.builder l.builder
