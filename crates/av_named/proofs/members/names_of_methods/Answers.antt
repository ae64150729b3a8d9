use Rattle.av_named.proofs.Appending.{each_all, each_more, each_none}
use Rattle.av_named.specs.Named.{MethodNames}
use Rattle.av_named.proofs.members.names_of_methods.Goals as goal

pub loop-method-init : goal.loop-method-init
loop-method-init c = each_none MethodNames c.args.methods.now c.args.out.now.items

pub loop-method-preserved : goal.loop-method-preserved
loop-method-preserved c =
    each_more MethodNames c.args.methods.now c.loop-method.method-index c.method-item.result c.args.out.now.items c.loop-method.out.items c.names_of_method.new.out.items
    c.loop-method-test.true c.method-item.is c.loop-method.invariant c.in_ok-names_of_method.ensures

pub returns : goal.returns
returns c = each_all MethodNames c.args.methods.now c.loop-method.method-index c.args.out.now.items c.loop-method.out.items c.loop-method-test.false c.loop-method.invariant
