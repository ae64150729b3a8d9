use Rattle.std.proofs.Common.{◌≤◌, ℕ, inl, inr}
use Rattle.av_dims.specs.Greatest.{FieldDims, MethodDims}
use Rattle.av_dims.proofs.Most.{greatest_at, in_parts, in_shape}
use Rattle.av_dims.proofs.shapes.greatest_in_shape.Goals as goal

pub greatest_in_fields-requires : goal.greatest_in_fields-requires
greatest_in_fields-requires c = in_parts FieldDims c.as_slice.result.now c.args.shape.now.fields (λ (dims : ℕ). dims ≤ 255) c.as_slice.ensures (λ dims h. c.requires dims (inl h))

pub greatest_in_methods-requires : goal.greatest_in_methods-requires
greatest_in_methods-requires c = in_parts MethodDims c.as_slice-2.result.now c.args.shape.now.methods (λ (dims : ℕ). dims ≤ 255) c.as_slice-2.ensures (λ dims h. c.requires dims (inr h))

pub returns : goal.returns
returns c =
    in_shape c.args.shape.now c.greatest_in_fields.result c.greatest_in_methods.result c.greater.result
    (greatest_at FieldDims c.as_slice.result.now c.args.shape.now.fields c.greatest_in_fields.result c.as_slice.ensures c.greatest_in_fields.ensures)
    (greatest_at MethodDims c.as_slice-2.result.now c.args.shape.now.methods c.greatest_in_methods.result c.as_slice-2.ensures c.greatest_in_methods.ensures)
    c.greater.ensures.left c.greater.ensures.right c.greater.ensures.one
