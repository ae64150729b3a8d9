use Rattle.jv_world.proofs.NamesFound.{names_more}
use Rattle.jv_world.proofs.names.Names.of.Goals as goal

pub loop-shape-preserved : goal.loop-shape-preserved
loop-shape-preserved c =
    let named = rw c.as_slice.ensures at c.in_ok-from_slice.ensures.items in
    names_more c.args.shapes.now c.loop-shape.shape-index c.shape-item.result c.loop-shape.keys.keys c.insert.new.self.keys c.in_ok-from_slice.field-0
    c.requires c.loop-shape-test.true c.shape-item.is named c.in_ok-insert.ensures.keys c.loop-shape.invariant
