use Rattle.av_named.proofs.Appending.{each_all, each_more, each_none}
use Rattle.av_collected.specs.Types.{HasClass}
use Rattle.av_named.proofs.members.names_of_descs.Goals as goal

pub loop-desc-init : goal.loop-desc-init
loop-desc-init c = each_none HasClass c.args.descs.now c.args.out.now.items

pub loop-desc-preserved : goal.loop-desc-preserved
loop-desc-preserved c =
    each_more HasClass c.args.descs.now c.loop-desc.desc-index c.desc-item.result c.args.out.now.items c.loop-desc.out.items c.names_of_desc.new.out.items
    c.loop-desc-test.true c.desc-item.is c.loop-desc.invariant c.in_ok-names_of_desc.ensures

pub returns : goal.returns
returns c = each_all HasClass c.args.descs.now c.loop-desc.desc-index c.args.out.now.items c.loop-desc.out.items c.loop-desc-test.false c.loop-desc.invariant
