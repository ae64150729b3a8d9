use Rattle.av_templates.proofs.Params.{AreHandedOver}
use Rattle.av_templates.proofs.parts.hand_over_params.Given as goal

abbrev pub invariant-loop-of : goal.invariant-loop-of
invariant-loop-of l = AreHandedOver l.at.words l.at.types.items l.first l.params l.of-index l.local l.fn.builder l.builder
