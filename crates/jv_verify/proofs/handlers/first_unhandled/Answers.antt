use Rattle.jv_verify.proofs.Covering.{none_asked, one_more, all_asked}
use Rattle.jv_verify.proofs.handlers.first_unhandled.Goals as goal

pub loop-handler-init : goal.loop-handler-init
loop-handler-init c = none_asked c.args.world.now c.args.rows.now c.args.handlers.now

pub loop-handler-preserved : goal.loop-handler-preserved
loop-handler-preserved c =
    rw c.earlier-least.ensures (one_more c.args.world.now c.args.rows.now c.args.handlers.now c.loop-handler.handler-index c.handler-item.result c.loop-handler.least c.in_ok-first_unsatisfied.field-0
    c.loop-handler-test.true c.handler-item.is c.loop-handler.invariant c.in_ok-first_unsatisfied.ensures)

pub returns : goal.returns
returns c = all_asked c.args.world.now c.args.rows.now c.args.handlers.now c.loop-handler.handler-index c.loop-handler.least c.loop-handler-test.false c.loop-handler.invariant
