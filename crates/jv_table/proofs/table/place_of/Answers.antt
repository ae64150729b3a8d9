use Rattle.std.proofs.Common.{◌+◌, ◌-◌, ◌/◌, sym, arith}
use Rattle.jv_table.proofs.Order.{halves_low, halves_high}
use Rattle.jv_table.proofs.table.place_of.Goals as goal

pub loop-low-preserved-in-Less : goal.loop-low-preserved-in-Less
loop-low-preserved-in-Less g c =
    let middle = c.loop-low.low + (c.loop-low.high - c.loop-low.low) / 2 in
    halves_low g.met.K.Ord.total c.args.rows.now c.args.key.now c.loop-low.low c.loop-low.high middle c.index-rows-middle.result c.requires c.loop-low.invariant (omega arith) (sym c.in-Less.ensures)

pub loop-low-preserved : goal.loop-low-preserved
loop-low-preserved g c =
    let middle = c.loop-low.low + (c.loop-low.high - c.loop-low.low) / 2 in
    halves_high g.met.K.Ord.total c.args.rows.now c.args.key.now c.loop-low.low c.loop-low.high middle c.index-rows-middle.result c.requires c.loop-low.invariant (omega arith) (omega arith) (sym c.in-Greater.ensures)
