use Rattle.av_named.proofs.Appending.{each_all, each_more, each_none}
use Rattle.av_round.specs.Seeds.{SuperOf}
use Rattle.av_round.proofs.seeds.names_of_all_supers.Goals as goal

pub loop-shape-init : goal.loop-shape-init
loop-shape-init c = each_none SuperOf c.args.app.now c.args.out.now.items

pub loop-shape-preserved : goal.loop-shape-preserved
loop-shape-preserved c =
    each_more SuperOf c.args.app.now c.loop-shape.shape-index c.shape-item.result c.args.out.now.items c.loop-shape.out.items c.names_of_supers.new.out.items
    c.loop-shape-test.true c.shape-item.is c.loop-shape.invariant c.in_ok-names_of_supers.ensures

pub returns : goal.returns
returns c = each_all SuperOf c.args.app.now c.loop-shape.shape-index c.args.out.now.items c.loop-shape.out.items c.loop-shape-test.false c.loop-shape.invariant
