use Rattle.std.proofs.Common.{◌∷◌, [], rules}
use Rattle.jv_table.specs.declared.ops.TheConstants.{PUTSTATIC}
use Rattle.jv_frames.specs.Types.{ref_vtype}
use Rattle.av_standin_of.specs.Items.{ends, field_insn}
use Rattle.av_items.specs.Steps.{bare}
use Rattle.av_items.proofs.Joined.{then_more}
use Rattle.av_items.proofs.fields.static_set.Goals as goal

pub returns : goal.returns
returns c =
    then_more c.ends.result c.args.builder c.in_ok-builder.builder (bare (ref_vtype c.args.of.now.kind ∷ []) (field_insn PUTSTATIC c.args.of.now.class c.args.of.now.field) ∷ []) ends ends
    (search rules) c.ends.ensures (search rules)
