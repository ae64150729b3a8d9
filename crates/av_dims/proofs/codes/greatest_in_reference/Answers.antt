use Rattle.std.proofs.Common.{inl, inr, refl}
use Rattle.jv_desc.specs.Texts.{ref_dims}
use Rattle.av_dims.proofs.Most.{in_reference}
use Rattle.av_dims.proofs.codes.greatest_in_reference.Goals as goal

pub type_dims-requires : goal.type_dims-requires
type_dims-requires c = c.requires (ref_dims c.args.r.now.class) (inl refl)

pub greatest_in_method-requires : goal.greatest_in_method-requires
greatest_in_method-requires c dims m = c.requires dims (inr m)

pub returns : goal.returns
returns c =
    in_reference c.args.op c.args.r.now c.type_dims.result c.greatest_in_method.result c.greater.result c.type_dims.ensures c.greatest_in_method.ensures
    c.greater.ensures.left c.greater.ensures.right c.greater.ensures.one
