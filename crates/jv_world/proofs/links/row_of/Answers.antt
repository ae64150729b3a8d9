use Rattle.jv_world.proofs.Linking.{RowFor-start, RowFor-step, RowFor-end}
use Rattle.jv_world.proofs.links.row_of.Goals as goal

pub loop-name-init : goal.loop-name-init
loop-name-init c = RowFor-start c.args.shape.now c.as_slice-name-items.result.now c.args.names.now c.in_ok-row.row.items c.in_ok-row.ensures

pub loop-name-preserved : goal.loop-name-preserved
loop-name-preserved c =
    RowFor-step c.args.shape.now c.as_slice-name-items.result.now c.args.names.now c.loop-name.name-index c.name-item.result c.loop-name.row.items c.add_named.new.row.items
    c.loop-name-test.true c.name-item.is c.in_ok-add_named.ensures c.loop-name.invariant

pub returns : goal.returns
returns c =
    RowFor-end c.args.shape.now c.as_slice-name-items.result.now c.args.names.now c.loop-name.name-index c.loop-name.row.items c.as_slice-name-items.ensures c.loop-name-test.false c.loop-name.invariant
