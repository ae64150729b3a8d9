-- By the laws of reading a pool.
use Rattle.std.proofs.Common.{ap, Err}
use Rattle.jv_pool.specs.Steps.PoolReading.{pool_at}
use Rattle.jv_pool.proofs.PoolLaws.{pool_takes, pool_found}
use Rattle.jv_class.proofs.LayoutReading.{nothing_read}
use Rattle.jv_class.proofs.layout.read_items.Goals as goal

pub returns-in-Ok : goal.returns-in-Ok
returns-in-Ok c = pool_found c.args.cursor.now c.in-Ok.pool c.read_pool.new.cursor c.in-Ok.ensures.found

pub returns-in-Err-Bad : goal.returns-in-Err-Bad
returns-in-Err-Bad c =
    nothing_read (pool_at c.args.cursor.now)
    (λ x e. c.in-Err-Bad.ensures.bad (ap Err c.in-Err-Bad.field-0-is) x.0 x.1 (pool_takes c.args.cursor.now x e))
