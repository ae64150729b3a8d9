use Rattle.std.proofs.Common.{◌∷◌, [], rules}
use Rattle.jv_table.specs.declared.ops.TheConstants.{ACONST_NULL}
use Rattle.jv_types.specs.declared.frames.VType as types
use Rattle.av_standin_of.specs.Codes.{plain, call_extra}
use Rattle.av_items.specs.Steps.{bare}
use Rattle.av_items.proofs.Joined.{then_more}
use Rattle.av_items.proofs.objects.initialised.Goals as goal

pub returns : goal.returns
returns c =
    then_more c.bare-2.result c.args.builder c.in_ok-builder.builder (bare (types.Uninit 0 ∷ types.Uninit 0 ∷ []) (plain ACONST_NULL) ∷ [])
    (bare c.as_slice-4.result.now c.in_ok-call.call ∷ [])
    (bare (types.Uninit 0 ∷ types.Uninit 0 ∷ types.Null ∷ []) (call_extra c.args.class.now) ∷ []) (search rules) c.bare-2.ensures (search rules)
