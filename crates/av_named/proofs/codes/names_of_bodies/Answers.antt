use Rattle.av_named.proofs.Appending.{each_all, each_more, each_none}
use Rattle.av_named.specs.Named.{BodyNames}
use Rattle.av_named.proofs.codes.names_of_bodies.Goals as goal

pub loop-method-init : goal.loop-method-init
loop-method-init c = each_none BodyNames c.args.bodies.now c.args.out.now.items

pub loop-method-preserved : goal.loop-method-preserved
loop-method-preserved c =
    each_more BodyNames c.args.bodies.now c.loop-method.method-index c.method-item.result c.args.out.now.items c.loop-method.out.items c.names_of_body.new.out.items
    c.loop-method-test.true c.method-item.is c.loop-method.invariant c.in_ok-names_of_body.ensures

pub returns : goal.returns
returns c = each_all BodyNames c.args.bodies.now c.loop-method.method-index c.args.out.now.items c.loop-method.out.items c.loop-method-test.false c.loop-method.invariant
