use Rattle.std.proofs.Common.{◌≤◌, ℕ, refl}
use Rattle.av_collected.specs.Types.{dims_of}
use Rattle.av_dims.specs.Greatest.{DescDims}
use Rattle.av_dims.proofs.Most.{greatest_at, in_method, in_parts, no_result, of_params, of_result}
use Rattle.av_dims.proofs.types.greatest_in_method.Goals as goal

pub greatest_in_descs-params-requires : goal.greatest_in_descs-params-requires
greatest_in_descs-params-requires c =
    in_parts DescDims c.as_slice.result.now c.args.desc.now.params (λ (dims : ℕ). dims ≤ 255) c.as_slice.ensures (λ dims h. c.requires dims (of_params c.args.desc.now dims h))

pub desc_dims-requires : goal.desc_dims-requires
desc_dims-requires c = c.requires (dims_of c.in-Some.of) (of_result c.args.desc.now c.in-Some.of c.in-Some.is (dims_of c.in-Some.of) refl)

pub returns-in-None : goal.returns-in-None
returns-in-None c =
    no_result c.args.desc.now 0 c.greatest_in_descs-params.result c.in-None.is
    (greatest_at DescDims c.as_slice.result.now c.args.desc.now.params c.greatest_in_descs-params.result c.as_slice.ensures c.greatest_in_descs-params.ensures)

pub returns-in-Some : goal.returns-in-Some
returns-in-Some c =
    in_method c.args.desc.now c.in-Some.of c.greatest_in_descs-params.result c.desc_dims.result c.greater.result c.in-Some.is
    (greatest_at DescDims c.as_slice.result.now c.args.desc.now.params c.greatest_in_descs-params.result c.as_slice.ensures c.greatest_in_descs-params.ensures)
    c.desc_dims.ensures c.greater.ensures.left c.greater.ensures.right c.greater.ensures.one
