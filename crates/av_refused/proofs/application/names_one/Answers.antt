use Rattle.av_refused.proofs.Finding.{one_named}
use Rattle.av_refused.proofs.application.names_one.Goals as goal

pub returns : goal.returns
returns c =
    one_named c.args.shape.now c.args.list.now c.new-names.result.items c.names_of_shape.new.out.items c.as_slice.result.now c.has_any.result
    c.new-names.ensures.items c.in_ok-names_of_shape.ensures c.as_slice.ensures.value c.has_any.ensures
