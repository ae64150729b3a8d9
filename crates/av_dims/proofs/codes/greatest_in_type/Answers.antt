use Rattle.std.proofs.Common.{◌+◌, inl, inr, refl, arith}
use Rattle.jv_desc.specs.Texts.{ref_dims}
use Rattle.av_dims.proofs.codes.greatest_in_type.Goals as goal

pub type_dims-requires : goal.type_dims-requires
type_dims-requires c = c.requires (ref_dims c.args.of.now) (inl refl)

pub overflow_add-result : goal.overflow_add-result
overflow_add-result c =
    let h = c.requires (ref_dims c.args.of.now + 1) (inr (c.if-op-eq-ANEWARRAY.true, refl)) in
    let e = c.type_dims.ensures in
    omega (arith, h, e)

pub type_dims-requires-else-op-eq-ANEWARRAY : goal.type_dims-requires-else-op-eq-ANEWARRAY
type_dims-requires-else-op-eq-ANEWARRAY c = c.requires (ref_dims c.args.of.now) (inl refl)
