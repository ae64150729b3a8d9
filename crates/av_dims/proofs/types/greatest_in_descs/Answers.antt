use Rattle.std.proofs.Common.{◌∙◌, refl, sym}
use Rattle.av_dims.specs.Greatest.{DescDims}
use Rattle.av_dims.proofs.Most.{each_all, one_more, each_none, small_at}
use Rattle.av_dims.proofs.types.greatest_in_descs.Goals as goal

pub loop-desc-init : goal.loop-desc-init
loop-desc-init c = each_none DescDims c.args.descs.now

pub desc_dims-requires : goal.desc_dims-requires
desc_dims-requires c = small_at DescDims c.args.descs.now c.loop-desc.desc-index c.desc-item.result c.loop-desc-test.true c.desc-item.is c.requires _ refl

pub loop-desc-preserved : goal.loop-desc-preserved
loop-desc-preserved c =
    one_more DescDims c.args.descs.now c.loop-desc.desc-index c.desc-item.result c.loop-desc.dims c.desc_dims.result c.greater-dims.result c.loop-desc-test.true c.desc-item.is c.loop-desc.invariant
    (λ other is. is ∙ sym c.desc_dims.ensures) c.desc_dims.ensures c.greater-dims.ensures.left c.greater-dims.ensures.right c.greater-dims.ensures.one

pub returns : goal.returns
returns c = each_all DescDims c.args.descs.now c.loop-desc.desc-index c.loop-desc.dims c.loop-desc-test.false c.loop-desc.invariant
