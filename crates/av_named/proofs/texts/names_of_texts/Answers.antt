use Rattle.av_named.proofs.Appending.{each_all, each_more, each_none}
use Rattle.av_named.specs.Named.{TextNames}
use Rattle.av_named.proofs.texts.names_of_texts.Goals as goal

pub loop-text-init : goal.loop-text-init
loop-text-init c = each_none TextNames c.args.texts.now c.args.out.now.items

pub loop-text-preserved : goal.loop-text-preserved
loop-text-preserved c =
    each_more TextNames c.args.texts.now c.loop-text.text-index c.text-item.result c.args.out.now.items c.loop-text.out.items c.names_of_text.new.out.items
    c.loop-text-test.true c.text-item.is c.loop-text.invariant c.in_ok-names_of_text.ensures

pub returns : goal.returns
returns c = each_all TextNames c.args.texts.now c.loop-text.text-index c.args.out.now.items c.loop-text.out.items c.loop-text-test.false c.loop-text.invariant
