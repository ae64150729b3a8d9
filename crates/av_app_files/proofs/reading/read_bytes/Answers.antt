use Rattle.av_program.proofs.Making.{makes_answered}
use Rattle.av_app_files.proofs.reading.read_bytes.Goals as goal

-- the call that was made is the one that may be
pub returns-in-Ok-clause-makes : goal.returns-in-Ok-clause-makes
returns-in-Ok-clause-makes g c = makes_answered _ c.read.result _ _ c.read.ensures.calls_grow

pub returns-in-Err-clause-makes : goal.returns-in-Err-clause-makes
returns-in-Err-clause-makes g c = makes_answered _ c.read.result _ _ c.read.ensures.calls_grow
