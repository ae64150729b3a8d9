-- Each turn of the loop is one row.
use Rattle.std.proofs.Common.{refl}
use Rattle.jv_lists.proofs.Zips.{zip_more_of}
use Rattle.jv_insn.specs.Meanings.{IsInsn}
use Rattle.jv_insn.specs.Decoding.{IsRow}
use Rattle.jv_insn.proofs.Refusing.{bad_means}
use Rattle.jv_insn.proofs.RowLoops.{insn_fails_of}
use Rattle.jv_insn.proofs.insns.insns_of.Goals as goal

pub returns-in-Err-Bad : goal.returns-in-Err-Bad
returns-in-Err-Bad c =
    insn_fails_of c.args.pool.now c.args.max_locals c.args.rows.now c.loop-row.row-index c.row-item.result c.loop-row.insns.items c.requires c.loop-row-test.true c.row-item.is c.loop-row.invariant
    (bad_means (IsInsn c.args.pool.now c.args.max_locals c.args.rows.now c.row-item.result.0 c.row-item.result.1) c.in-Err-Bad.field-0 c.in-Err-Bad.field-0-is c.in-Err-Bad.ensures)

pub loop-row-preserved : goal.loop-row-preserved
loop-row-preserved c =
    rw c.in_ok-push-in-Ok.ensures.items (zip_more_of (IsRow c.args.pool.now c.args.max_locals c.args.rows.now) c.args.rows.now c.loop-row.insns.items c.loop-row.row-index c.row-item.result (c.row-item.result.0, c.in-Ok.insn) c.loop-row-test.true c.row-item.is c.loop-row.invariant
    (record { pc = refl; is_insn = c.in-Ok.ensures }))
