-- What was read and what is still read are all of it.
use Rattle.std.proofs.Common.{◌≡◌, ◌-◌, false}
use Rattle.jv_pool.specs.Steps.PoolReading.{items_at}
use Rattle.jv_read.proofs.Loops.{with_front}
use Rattle.jv_pool.proofs.reader.read_items.Given as goal

abbrev pub invariant-loop : goal.invariant-loop
invariant-loop l = with_front l.items.items (items_at (l.indices - l.counter) l.wide l.cursor) ≡ items_at l.indices false l.fn.cursor
