use Rattle.std.proofs.Common.{◌∷◌, [], rules}
use Rattle.jv_table.specs.declared.ops.TheConstants.{PUTFIELD}
use Rattle.jv_types.specs.declared.frames.VType as types
use Rattle.jv_frames.specs.Types.{ref_vtype}
use Rattle.av_standin_of.specs.Items.{ends, field_insn}
use Rattle.av_items.specs.Steps.{bare}
use Rattle.av_items.proofs.Joined.{then_more}
use Rattle.av_items.proofs.fields.put_last.Goals as goal

pub returns : goal.returns
returns c =
    then_more c.ends.result c.args.builder c.in_ok-builder.builder
    (bare (types.Class c.args.of.now.class ∷ ref_vtype c.args.of.now.kind ∷ []) (field_insn PUTFIELD c.args.of.now.class c.args.of.now.field) ∷ []) ends ends
    (search rules) c.ends.ensures (search rules)
