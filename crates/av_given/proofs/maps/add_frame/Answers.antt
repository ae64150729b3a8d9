use Rattle.av_given.proofs.Names.{two_lists}
use Rattle.av_given.proofs.maps.add_frame.Goals as goal

pub returns : goal.returns
returns c =
    two_lists c.args.pool.now c.args.frame.now c.as_slice-locals.result.now c.as_slice-stack.result.now c.args.texts.items c.in_ok-first.first.items c.in_ok-both.both.items c.as_slice-locals.ensures c.as_slice-stack.ensures c.in_ok-first.ensures c.in_ok-both.ensures
