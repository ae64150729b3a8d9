use Rattle.std.proofs.Common.{◌∷◌, [], rules}
use Rattle.jv_types.specs.declared.desc.RefType as refs
use Rattle.av_standin_of.specs.Codes.{checkcast, object_vtype}
use Rattle.av_items.specs.Steps.{bare}
use Rattle.av_items.proofs.Joined.{then_more}
use Rattle.av_items.proofs.calls.got_as.Goals as goal

pub returns : goal.returns
returns c =
    then_more c.over_one.result c.args.builder c.in_ok-builder.builder (bare [] c.args.get ∷ []) (bare (c.in_ok-object.object ∷ []) c.in_ok-cast.cast ∷ [])
    (bare (object_vtype ∷ []) (checkcast (refs.Class c.args.class.now)) ∷ []) (search rules) c.over_one.ensures (search rules)
