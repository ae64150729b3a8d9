use Rattle.std.proofs.Common.{arith}
use Rattle.jv_world.proofs.Linking.{AreClassNames-shapes, AreRows-more, AreLinks-rows}
use Rattle.jv_world.proofs.links.links_of.Goals as goal

pub row_of-requires : goal.row_of-requires
row_of-requires c = AreClassNames-shapes c.args.shapes.now c.args.names.now c.requires.numbered c.requires.names

pub loop-shape-preserved : goal.loop-shape-preserved
loop-shape-preserved c =
    AreRows-more c.args.shapes.now c.args.names.now c.loop-shape.shape-index c.shape-item.result c.loop-shape.links.items c.push.new.self.items c.in_ok-row_of.field-0
    c.loop-shape-test.true c.shape-item.is c.in_ok-row_of.ensures c.in_ok-push.ensures.items c.loop-shape.invariant

pub returns : goal.returns
returns c =
    AreLinks-rows c.args.shapes.now c.args.names.now c.loop-shape.shape-index c.loop-shape.links.items c.requires.names (omega arith) c.loop-shape.invariant
