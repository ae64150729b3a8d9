use Rattle.std.proofs.Common.{refl}
use Rattle.av_dims.specs.Greatest.{MethodDims}
use Rattle.av_dims.proofs.Most.{each_all, each_more, each_none, small_at}
use Rattle.av_dims.proofs.shapes.greatest_in_methods.Goals as goal

pub loop-method-init : goal.loop-method-init
loop-method-init c = each_none MethodDims c.args.methods.now

pub greatest_in_method-requires : goal.greatest_in_method-requires
greatest_in_method-requires c = small_at MethodDims c.args.methods.now c.loop-method.method-index c.method-item.result c.loop-method-test.true c.method-item.is c.requires

pub loop-method-preserved : goal.loop-method-preserved
loop-method-preserved c =
    each_more MethodDims c.args.methods.now c.loop-method.method-index c.method-item.result c.loop-method.dims c.greatest_in_method.result c.greater-dims.result c.loop-method-test.true c.method-item.is c.loop-method.invariant
    c.greatest_in_method.ensures c.greater-dims.ensures.left c.greater-dims.ensures.right c.greater-dims.ensures.one

pub returns : goal.returns
returns c = each_all MethodDims c.args.methods.now c.loop-method.method-index c.loop-method.dims c.loop-method-test.false c.loop-method.invariant
