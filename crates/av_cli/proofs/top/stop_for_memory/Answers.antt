use Rattle.av_outcome.proofs.Sinks.{says}
use Rattle.av_cli.proofs.top.stop_for_memory.Goals as goal

pub returns-clause-said : goal.returns-clause-said
returns-clause-said g c = says _ _ _ _ c.write_answer.ensures.said
