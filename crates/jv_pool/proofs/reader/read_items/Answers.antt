-- Each step of the loop, by the lemmas on reading items one after the other.
use Rattle.std.proofs.Common.{false}
use Rattle.std.proofs.lemmas.Result.{err_from_is_err_and}
use Rattle.jv_pool.specs.Steps.PoolReading.{items_at}
use Rattle.jv_pool.proofs.Loops.{item_goes_on, item_ends, items_are_done, items_are_cut}
use Rattle.jv_pool.proofs.reader.read_items.Goals as goal

pub returns-in_err-item : goal.returns-in_err-item
returns-in_err-item c =
    let p = err_from_is_err_and c.from_residual.result c.from_residual.ensures.1 in
    rw (p.1, p.2) (item_ends c.in_err-item.field-0.0 c.loop.items.items c.args.indices c.loop.counter c.loop.wide c.loop.cursor (items_at c.args.indices false c.args.cursor.now) c.loop-test.true c.in_err-item.ensures c.loop.invariant)

pub loop-preserved : goal.loop-preserved
loop-preserved c =
    rw c.in_ok-push.ensures.items (item_goes_on c.loop.items.items c.args.indices c.loop.counter c.loop.wide c.in_ok-item.takes_two c.loop.cursor c.read_slot.new.cursor c.in_ok-item.item (items_at c.args.indices false c.args.cursor.now) c.loop-test.true c.in_ok-item.ensures c.loop.invariant)

pub returns-then-wide : goal.returns-then-wide
returns-then-wide c = items_are_cut c.loop.items.items c.args.indices c.loop.counter c.loop.wide c.loop.cursor (items_at c.args.indices false c.args.cursor.now) c.loop-test.false c.if-wide.true c.loop.invariant

pub returns : goal.returns
returns c = items_are_done c.loop.items.items c.args.indices c.loop.counter c.loop.wide c.loop.cursor (items_at c.args.indices false c.args.cursor.now) c.loop-test.false c.if-wide.false c.loop.invariant
