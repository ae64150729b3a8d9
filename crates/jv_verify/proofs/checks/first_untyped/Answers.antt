use Rattle.av_conditions.proofs.Standing.{stands_at, holds_more}
use Rattle.jv_verify.proofs.Asked.{IsTypedRow, first_fails, all_typed}
use Rattle.jv_verify.proofs.checks.first_untyped.Goals as goal

pub is_typed-requires-clause-stands : goal.is_typed-requires-clause-stands
is_typed-requires-clause-stands c =
    stands_at c.args.body.now.insns c.loop-row.row-index c.row-item.result c.args.body.now.rising (rw c.as_slice-row-items.ensures at c.loop-row-test.true) (rw c.as_slice-row-items.ensures at c.row-item.is)

pub returns-then-not-branch : goal.returns-then-not-branch
returns-then-not-branch c =
    first_fails c.args.world.now c.args.method c.args.body.now c.args.rows.now c.loop-row.row-index c.row-item.result c.in_ok-is_typed.field-0 (rw c.as_slice-row-items.ensures at c.loop-row-test.true) (rw c.as_slice-row-items.ensures at c.row-item.is)
    c.in_ok-is_typed.ensures c.if-not-branch.true c.loop-row.invariant

pub loop-row-preserved : goal.loop-row-preserved
loop-row-preserved c =
    holds_more (IsTypedRow c.args.world.now c.args.method c.args.body.now c.args.rows.now) c.args.body.now.insns c.loop-row.row-index c.row-item.result (rw c.as_slice-row-items.ensures at c.loop-row-test.true) (rw c.as_slice-row-items.ensures at c.row-item.is)
    (rw c.if-not-branch.false at c.in_ok-is_typed.ensures) c.loop-row.invariant

pub returns : goal.returns
returns c =
    all_typed c.args.world.now c.args.method c.args.body.now c.args.rows.now c.loop-row.row-index (rw c.as_slice-row-items.ensures at c.loop-row-test.false) c.loop-row.invariant
