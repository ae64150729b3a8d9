use Rattle.std.proofs.Common.{Some}
use Rattle.av_rules.proofs.Tables.{past_all, stands_for_none}
use Rattle.av_rules.proofs.any_classes.stood_for.Goals as goal

pub returns-then-stands_for-clause-found : goal.returns-then-stands_for-clause-found
returns-then-stands_for-clause-found c = c.requires.exact c.loop-number.number (Some c.args.own) (c.stands_for.ensures.0 c.if-stands_for.true)

pub returns-clause-none : goal.returns-clause-none
returns-clause-none c =
    stands_for_none c.args.world.now c.args.any.now c.args.own c.loop-number.number c.shapes-count.ensures.world.numbered c.requires
    (past_all c.shapes-count.result.now c.args.world.now c.loop-number.number c.shapes-count.ensures.shapes c.loop-number-test.false) c.loop-number.invariant
