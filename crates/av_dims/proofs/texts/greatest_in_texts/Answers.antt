use Rattle.av_dims.specs.Greatest.{TextDims}
use Rattle.av_dims.proofs.Most.{each_all, each_more, each_none, small_at}
use Rattle.av_dims.proofs.texts.greatest_in_texts.Goals as goal

pub loop-text-init : goal.loop-text-init
loop-text-init c = each_none TextDims c.args.texts.now

pub greatest_in_text-requires : goal.greatest_in_text-requires
greatest_in_text-requires c = small_at TextDims c.args.texts.now c.loop-text.text-index c.text-item.result c.loop-text-test.true c.text-item.is c.requires

pub loop-text-preserved : goal.loop-text-preserved
loop-text-preserved c =
    each_more TextDims c.args.texts.now c.loop-text.text-index c.text-item.result c.loop-text.dims c.in_ok-more.more c.greater-dims.result c.loop-text-test.true c.text-item.is c.loop-text.invariant
    c.in_ok-more.ensures c.greater-dims.ensures.left c.greater-dims.ensures.right c.greater-dims.ensures.one

pub returns : goal.returns
returns c = each_all TextDims c.args.texts.now c.loop-text.text-index c.loop-text.dims c.loop-text-test.false c.loop-text.invariant
