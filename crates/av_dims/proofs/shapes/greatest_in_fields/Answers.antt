use Rattle.std.proofs.Common.{◌∙◌, refl, sym}
use Rattle.av_dims.specs.Greatest.{FieldDims}
use Rattle.av_dims.proofs.Most.{each_all, one_more, each_none, small_at}
use Rattle.av_dims.proofs.shapes.greatest_in_fields.Goals as goal

pub loop-field-init : goal.loop-field-init
loop-field-init c = each_none FieldDims c.args.fields.now

pub desc_dims-requires : goal.desc_dims-requires
desc_dims-requires c = small_at FieldDims c.args.fields.now c.loop-field.field-index c.field-item.result c.loop-field-test.true c.field-item.is c.requires _ refl

pub loop-field-preserved : goal.loop-field-preserved
loop-field-preserved c =
    one_more FieldDims c.args.fields.now c.loop-field.field-index c.field-item.result c.loop-field.dims c.desc_dims.result c.greater-dims.result c.loop-field-test.true c.field-item.is c.loop-field.invariant
    (λ other is. is ∙ sym c.desc_dims.ensures) c.desc_dims.ensures c.greater-dims.ensures.left c.greater-dims.ensures.right c.greater-dims.ensures.one

pub returns : goal.returns
returns c = each_all FieldDims c.args.fields.now c.loop-field.field-index c.loop-field.dims c.loop-field-test.false c.loop-field.invariant
