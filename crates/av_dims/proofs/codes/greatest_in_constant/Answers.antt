use Rattle.std.proofs.Common.{refl}
use Rattle.jv_types.specs.declared.instruction.Const.TheVariants as consts
use Rattle.jv_desc.specs.Texts.{ref_dims}
use Rattle.av_dims.proofs.Most.{small_const}
use Rattle.av_dims.proofs.codes.greatest_in_constant.Goals as goal

pub type_dims-requires : goal.type_dims-requires
type_dims-requires c = small_const c.args.constant.now (consts.Class c.in-Class.of) c.in-Class.is c.requires (ref_dims c.in-Class.of) refl
