use Rattle.std.proofs.Common.{◌∷◌, [], rules}
use Rattle.jv_table.specs.declared.ops.TheConstants.{AASTORE}
use Rattle.jv_types.specs.declared.frames.VType as types
use Rattle.jv_frames.specs.Types.{ref_vtype}
use Rattle.av_standin_of.specs.Codes.{plain, get_known, object_vtype}
use Rattle.av_standin_of.specs.Items.{objects_type}
use Rattle.av_items.specs.Steps.{bare}
use Rattle.av_items.proofs.Joined.{then_more}
use Rattle.av_items.proofs.core_items.element_stored.Goals as goal

pub returns : goal.returns
returns c =
    then_more c.bare-2.result c.args.builder c.in_ok-builder.builder (bare (ref_vtype objects_type ∷ types.Integer ∷ []) get_known ∷ [])
    (bare c.as_slice-3.result.now c.plain.result ∷ [])
    (bare (ref_vtype objects_type ∷ types.Integer ∷ object_vtype ∷ []) (plain AASTORE) ∷ []) (search rules) c.bare-2.ensures (search rules)
