use Rattle.av_app_files.proofs.Instances.{denied, instance_start, instance_more, instance_found, instance_none}
use Rattle.av_app_files.proofs.file_rules.has_instance_initialiser.Goals as goal

pub loop-method-init : goal.loop-method-init
loop-method-init c = instance_start c.args.class.now c.as_slice-methods.result.now

pub loop-method-preserved : goal.loop-method-preserved
loop-method-preserved c =
    instance_more c.args.class.now c.as_slice-methods.result.now c.loop-method.method-index c.method-item.result c.loop-method-test.true c.method-item.is
    (denied c.is_instance_initialiser.result c.if-is_instance_initialiser.false c.is_instance_initialiser.ensures.1) c.loop-method.invariant

pub returns-then-is_instance_initialiser : goal.returns-then-is_instance_initialiser
returns-then-is_instance_initialiser c =
    instance_found c.args.class.now c.as_slice-methods.result.now c.loop-method.method-index c.method-item.result c.as_slice-methods.ensures c.loop-method-test.true c.method-item.is
    (c.is_instance_initialiser.ensures.0 c.if-is_instance_initialiser.true)

pub returns : goal.returns
returns c = instance_none c.args.class.now c.as_slice-methods.result.now c.loop-method.method-index c.as_slice-methods.ensures c.loop-method-test.false c.loop-method.invariant
