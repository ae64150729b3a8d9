-- Each turn of the loop is one instruction.
use Rattle.tests_code.proofs.Encodings.{may_more}
use Rattle.tests_code.proofs.encoding.may_encode.Goals as goal

pub loop-row-preserved : goal.loop-row-preserved
loop-row-preserved c =
    may_more c.loop-row.pool c.is_near.new.pool c.as_slice-row-items.result.now c.args.body.now.insns c.loop-row.row-index c.row-item.result c.as_slice-row-items.ensures c.loop-row-test.true c.row-item.is c.in_ok-is_near.ensures.grown
    c.loop-row.invariant (c.is_whole.ensures c.if-not-is_whole.false) (c.in_ok-is_near.ensures.near c.if-not-branch.false)
