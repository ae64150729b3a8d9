use Rattle.std.proofs.Common.{◌∷◌, [], rules}
use Rattle.jv_table.specs.declared.ops.TheConstants.{ICONST_0}
use Rattle.jv_frames.specs.Types.{ref_vtype}
use Rattle.av_standin_of.specs.Codes.{plain, known_as}
use Rattle.av_standin_of.specs.Items.{objects_type}
use Rattle.av_items.specs.Steps.{bare}
use Rattle.av_items.proofs.Joined.{then_more}
use Rattle.av_items.proofs.core_items.first_place.Goals as goal

pub returns : goal.returns
returns c =
    then_more c.over_one.result c.args.builder c.in_ok-builder.builder (known_as 0 [] [] objects_type) (bare (c.in_ok-of.of ∷ []) c.plain.result ∷ [])
    (bare (ref_vtype objects_type ∷ []) (plain ICONST_0) ∷ []) (search rules) c.over_one.ensures (search rules)
