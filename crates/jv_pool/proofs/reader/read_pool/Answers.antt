-- The laws of reading, at the bytes that were left.
use Rattle.jv_pool.proofs.PoolLaws.{pool_takes, is_refused}
use Rattle.jv_pool.proofs.reader.read_pool.Goals as goal

pub returns-in-Ok-clause-found : goal.returns-in-Ok-clause-found
returns-in-Ok-clause-found c = pool_takes c.args.cursor.now (c.in-Ok.pool, c.read_any.new.cursor) c.in-Ok.ensures

pub returns-in-Err-Bad-clause-bad : goal.returns-in-Err-Bad-clause-bad
returns-in-Err-Bad-clause-bad c = λ _. is_refused c.args.cursor.now (rw c.in-Err-Bad.field-0-is at c.in-Err-Bad.ensures)
