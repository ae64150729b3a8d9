-- Each step of the loop, by the lemmas on reading parts one after the other.
use Rattle.std.proofs.lemmas.Result.{err_from_is_err_and}
use Rattle.jv_read.specs.Reading.{many_at}
use Rattle.jv_read.proofs.Many.{many_begin, many_goes_on, many_ends, many_done}
use Rattle.jv_read.proofs.part.read_many.Goals as goal

pub loop-init : goal.loop-init
loop-init g c = many_begin (g.P.Part.part_at c.args.part.now) c.new-items.result.items c.args.count c.args.cursor.now c.new-items.ensures.items

pub returns-in_err-item : goal.returns-in_err-item
returns-in_err-item g c =
    let one = g.P.Part.part_at c.args.part.now in
    let p = err_from_is_err_and c.from_residual.result c.from_residual.ensures.1 in
    rw (p.1, p.2) (many_ends c.in_err-item.field-0.0 one c.loop.items.items c.args.count c.loop.counter c.loop.cursor (many_at one c.args.count c.args.cursor.now) c.loop-test.true c.in_err-item.ensures c.loop.invariant)

pub loop-preserved : goal.loop-preserved
loop-preserved g c =
    let one = g.P.Part.part_at c.args.part.now in
    rw c.in_ok-push.ensures.items (many_goes_on one c.loop.items.items c.args.count c.loop.counter c.loop.cursor c.read.new.cursor c.in_ok-item.item (many_at one c.args.count c.args.cursor.now) c.loop-test.true c.in_ok-item.ensures c.loop.invariant)

pub returns : goal.returns
returns g c =
    let one = g.P.Part.part_at c.args.part.now in
    many_done one c.loop.items.items c.args.count c.loop.counter c.loop.cursor (many_at one c.args.count c.args.cursor.now) c.loop-test.false c.loop.invariant
