use Rattle.std.proofs.Common.{refl}
use Rattle.av_dims.specs.Greatest.{ShapeDims}
use Rattle.av_dims.proofs.Most.{each_all, each_more, each_none, small_at}
use Rattle.av_dims.proofs.shapes.greatest_in_shapes.Goals as goal

pub loop-shape-init : goal.loop-shape-init
loop-shape-init c = each_none ShapeDims c.args.shapes.now

pub greatest_in_shape-requires : goal.greatest_in_shape-requires
greatest_in_shape-requires c = small_at ShapeDims c.args.shapes.now c.loop-shape.shape-index c.shape-item.result c.loop-shape-test.true c.shape-item.is c.requires

pub loop-shape-preserved : goal.loop-shape-preserved
loop-shape-preserved c =
    each_more ShapeDims c.args.shapes.now c.loop-shape.shape-index c.shape-item.result c.loop-shape.dims c.greatest_in_shape.result c.greater-dims.result c.loop-shape-test.true c.shape-item.is c.loop-shape.invariant
    c.greatest_in_shape.ensures c.greater-dims.ensures.left c.greater-dims.ensures.right c.greater-dims.ensures.one

pub returns : goal.returns
returns c = each_all ShapeDims c.args.shapes.now c.loop-shape.shape-index c.loop-shape.dims c.loop-shape-test.false c.loop-shape.invariant
