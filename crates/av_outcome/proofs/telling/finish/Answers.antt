use Rattle.std.proofs.Common.{◌∙◌, sym}
use Rattle.av_outcome.proofs.Done.{done_alone}
use Rattle.av_outcome.proofs.Sinks.{says}
use Rattle.av_outcome.proofs.telling.finish.Goals as goal

pub returns-clause-said : goal.returns-clause-said
returns-clause-said g c = says _ _ _ _ c.write_outcome.ensures.handed

pub returns-clause-silent : goal.returns-clause-silent
returns-clause-silent g c = λ done. c.write_outcome.ensures.silent (done_alone c.args.outcome.now (sym c.status.ensures ∙ done))
