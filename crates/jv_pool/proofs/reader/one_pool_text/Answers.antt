-- What begins with a pool is read as it, so two pools at one front are one.
use Rattle.jv_pool.proofs.PoolLaws.{one_reading, pools_agree, no_front}
use Rattle.jv_pool.proofs.reader.one_pool_text.Goals as goal

pub returns-clause-reading : goal.returns-clause-reading
returns-clause-reading c = one_reading

pub returns-clause-fronts : goal.returns-clause-fronts
returns-clause-fronts c = pools_agree

pub returns-clause-whole : goal.returns-clause-whole
returns-clause-whole c = no_front
