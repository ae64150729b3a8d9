use Rattle.av_conditions.proofs.Answering.{denied}
use Rattle.av_conditions.proofs.PlainMethods.{plain_start, plain_more, plain_found, plain_none}
use Rattle.av_conditions.proofs.core_classes.declares_plain.Goals as goal

pub loop-method-init : goal.loop-method-init
loop-method-init c = plain_start c.as_slice-methods.result.now c.args.name.now

pub loop-method-preserved : goal.loop-method-preserved
loop-method-preserved c =
    plain_more c.as_slice-methods.result.now c.args.name.now c.loop-method.method-index c.method-item.result c.loop-method-test.true c.method-item.is
    (denied c.is_plain.result c.if-is_plain.false c.is_plain.ensures.1) c.loop-method.invariant

pub returns-then-is_plain : goal.returns-then-is_plain
returns-then-is_plain c =
    plain_found c.args.shape.now c.as_slice-methods.result.now c.args.name.now c.loop-method.method-index c.method-item.result c.as_slice-methods.ensures c.loop-method-test.true c.method-item.is
    (c.is_plain.ensures.0 c.if-is_plain.true)

pub returns : goal.returns
returns c = plain_none c.args.shape.now c.as_slice-methods.result.now c.args.name.now c.loop-method.method-index c.as_slice-methods.ensures c.loop-method-test.false c.loop-method.invariant
