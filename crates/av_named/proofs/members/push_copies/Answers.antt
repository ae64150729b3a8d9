use Rattle.av_named.proofs.Appending.{all_all, all_more, all_none}
use Rattle.av_named.proofs.members.push_copies.Goals as goal

pub loop-name-init : goal.loop-name-init
loop-name-init c = all_none c.args.names.now c.args.out.now.items

pub loop-name-preserved : goal.loop-name-preserved
loop-name-preserved c =
    all_more c.args.names.now c.loop-name.name-index c.name-item.result c.args.out.now.items c.loop-name.out.items c.push_copy.new.out.items
    c.loop-name-test.true c.name-item.is c.loop-name.invariant c.in_ok-push_copy.ensures

pub returns : goal.returns
returns c = all_all c.args.names.now c.loop-name.name-index c.args.out.now.items c.loop-name.out.items c.loop-name-test.false c.loop-name.invariant
