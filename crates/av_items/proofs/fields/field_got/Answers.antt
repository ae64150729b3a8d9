use Rattle.std.proofs.Common.{◌∷◌, [], rules}
use Rattle.jv_table.specs.declared.ops.TheConstants.{GETFIELD}
use Rattle.jv_types.specs.declared.frames.VType as types
use Rattle.jv_frames.specs.Types.{ref_vtype}
use Rattle.av_standin_of.specs.Items.{field_insn, keeps}
use Rattle.av_items.specs.Steps.{bare}
use Rattle.av_items.proofs.Joined.{then_more}
use Rattle.av_items.proofs.fields.field_got.Goals as goal

pub returns : goal.returns
returns c =
    then_more c.keeps.result c.args.builder c.in_ok-builder.builder (bare (types.Class c.args.of.now.class ∷ []) (field_insn GETFIELD c.args.of.now.class c.args.of.now.field) ∷ []) (keeps c.in_ok-kept.kept)
    (keeps (ref_vtype c.args.of.now.kind)) (search rules) c.keeps.ensures (search rules)
