use Rattle.std.proofs.Common.{rules}
use Rattle.av_items.specs.Steps.{instance_got, instance_put}
use Rattle.av_items.proofs.Joined.{then_more}
use Rattle.av_items.proofs.fields.instance_rows.Goals as goal

pub returns : goal.returns
returns c =
    let of = c.args.of.now in
    then_more c.instance_put.result c.args.builder c.in_ok-builder.builder (instance_got of.class of.field of.kind) (instance_put of.class of.field of.kind)
    (instance_put of.class of.field of.kind) (search rules) c.instance_put.ensures (search rules)
