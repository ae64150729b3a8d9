use Rattle.std.proofs.Common.{rules}
use Rattle.jv_table.specs.declared.ops.TheConstants.{ANEWARRAY}
use Rattle.jv_types.specs.declared.desc.RefType as refs
use Rattle.jv_types.specs.declared.instruction.Arg.TheVariants as args
use Rattle.jv_frames.specs.Types.{ref_vtype}
use Rattle.av_standin_of.specs.Codes.{insn}
use Rattle.av_standin_of.specs.Items.{keeps}
use Rattle.av_items.specs.Steps.{one_and}
use Rattle.av_items.proofs.Joined.{then_more}
use Rattle.av_items.proofs.arrays.make_array.Goals as goal

pub returns : goal.returns
returns c =
    then_more c.keeps.result c.args.builder c.in_ok-builder.builder (one_and (insn ANEWARRAY (args.Class c.args.of.now))) (keeps c.in_ok-of.of)
    (keeps (ref_vtype (refs.Array c.args.of.now))) (search rules) c.keeps.ensures (search rules)
