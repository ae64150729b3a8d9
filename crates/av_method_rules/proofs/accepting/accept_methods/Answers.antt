use Rattle.av_method_rules.proofs.Until.{until_all}
use Rattle.av_method_rules.proofs.accepting.accept_methods.Goals as goal

pub returns-clause-accepted : goal.returns-clause-accepted
returns-clause-accepted c = until_all c.args.world.now c.args.classes.now c.loop-number.number c.loop-number.methods.items c.loop-number-test.false c.loop-number.invariant
