use Rattle.std.proofs.Common.{refl}
use Rattle.jv_types.specs.declared.instruction.Arg.TheVariants as args
use Rattle.jv_desc.specs.Texts.{ref_dims}
use Rattle.av_collected.specs.Types.{dims_of}
use Rattle.av_dims.proofs.Most.{greatest_arg, small_arg}
use Rattle.av_dims.proofs.codes.greatest_in_insn.Goals as goal

pub greatest_in_constant-requires : goal.greatest_in_constant-requires
greatest_in_constant-requires c = small_arg c.args.insn.now.op c.args.insn.now.arg (args.Constant c.in-Constant.constant) c.in-Constant.is c.requires

pub greatest_in_type-requires : goal.greatest_in_type-requires
greatest_in_type-requires c = small_arg c.args.insn.now.op c.args.insn.now.arg (args.Class c.in-Class.of) c.in-Class.is c.requires

pub type_dims-requires : goal.type_dims-requires
type_dims-requires c = small_arg c.args.insn.now.op c.args.insn.now.arg (args.Multi c.in-Multi.of c.in-Multi.field-1) c.in-Multi.is c.requires (ref_dims c.in-Multi.of) refl

pub desc_dims-requires : goal.desc_dims-requires
desc_dims-requires c = small_arg c.args.insn.now.op c.args.insn.now.arg (args.Field c.in-Field.r) c.in-Field.is c.requires (dims_of c.in-Field.r.desc) refl

pub greatest_in_reference-requires : goal.greatest_in_reference-requires
greatest_in_reference-requires c = small_arg c.args.insn.now.op c.args.insn.now.arg (args.Method c.in-Method.r) c.in-Method.is c.requires

pub returns-in-Constant : goal.returns-in-Constant
returns-in-Constant c = greatest_arg c.args.insn.now.op c.args.insn.now.arg (args.Constant c.in-Constant.constant) c.greatest_in_constant.result c.in-Constant.is c.greatest_in_constant.ensures

pub returns-in-Class : goal.returns-in-Class
returns-in-Class c = greatest_arg c.args.insn.now.op c.args.insn.now.arg (args.Class c.in-Class.of) c.greatest_in_type.result c.in-Class.is c.greatest_in_type.ensures

pub returns-in-Method : goal.returns-in-Method
returns-in-Method c = greatest_arg c.args.insn.now.op c.args.insn.now.arg (args.Method c.in-Method.r) c.greatest_in_reference.result c.in-Method.is c.greatest_in_reference.ensures
