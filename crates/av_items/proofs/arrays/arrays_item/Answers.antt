use Rattle.std.proofs.Common.{rules}
use Rattle.jv_types.specs.declared.desc.RefType as refs
use Rattle.av_standin_of.specs.Items.{ends, make_arrays}
use Rattle.av_items.proofs.Joined.{then_more}
use Rattle.av_items.proofs.arrays.arrays_item.Goals as goal

pub returns : goal.returns
returns c =
    then_more c.ends.result c.args.builder c.in_ok-builder.builder (make_arrays c.args.dims (refs.Class c.args.class.now)) ends ends
    (search rules) c.ends.ensures (search rules)
