use Rattle.av_outcome.proofs.telling.write_limit.Goals as goal

pub returns-clause-handed : goal.returns-clause-handed
returns-clause-handed g c = rw (c.as_bytes.ensures.value, c.name.ensures) at c.write_pieces.ensures.handed
