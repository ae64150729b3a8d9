use Rattle.av_outcome.proofs.telling.write_outcome.Goals as goal

pub returns-in-ReadFault-clause-handed : goal.returns-in-ReadFault-clause-handed
returns-in-ReadFault-clause-handed g c = rw c.in-ReadFault.is (rw c.as_slice.ensures at c.write_about.ensures.handed)

pub returns-in-WriteFault-clause-handed : goal.returns-in-WriteFault-clause-handed
returns-in-WriteFault-clause-handed g c = rw c.in-WriteFault.is c.write_whole-in-WriteFault.ensures.handed

pub returns-in-Limit-clause-handed : goal.returns-in-Limit-clause-handed
returns-in-Limit-clause-handed g c = rw c.in-Limit.is c.write_limit.ensures.handed

pub returns-in-Memory-clause-handed : goal.returns-in-Memory-clause-handed
returns-in-Memory-clause-handed g c = rw c.in-Memory.is c.write_whole-in-Memory.ensures.handed
