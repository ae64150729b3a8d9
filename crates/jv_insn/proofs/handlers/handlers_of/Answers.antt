-- Each turn of the loop is one entry.
use Rattle.jv_insn.specs.Decoding.{IsHandler}
use Rattle.std.proofs.Common.{get_or}
use Rattle.jv_insn.proofs.Refusing.{bad_means}
use Rattle.jv_insn.proofs.RowLoops.{handler_more, failure_more}
use Rattle.jv_insn.proofs.handlers.handlers_of.Goals as goal
use Rattle.jv_insn.proofs.handlers.handlers_of.Goals.{in-Ok+in_ok-push-in-Ok, in-Err-Bad}

pub loop-raw-preserved : goal.loop-raw-preserved
loop-raw-preserved c = elim c.match-handler_of.branch [
  | in-Ok+in_ok-push-in-Ok w ↦
      rw (w.handlers-is, w.least-is, w.in_ok-push-in-Ok.ensures.items)
      (handler_more c.args.pool.now c.args.length c.args.rows.now c.args.raws.now c.loop-raw.handlers.items c.loop-raw.least c.loop-raw.raw-index (record { start = 0; end = 0; target = 0; catch = 0 }) w.in-Ok.handler c.loop-raw-test.true c.loop-raw.invariant w.in-Ok.ensures)
  | in-Err-Bad w ↦
      let raw = get_or c.args.raws.now c.loop-raw.raw-index (record { start = 0; end = 0; target = 0; catch = 0 }) in
      rw (w.least-is, w.lesser.ensures)
      (failure_more c.args.pool.now c.args.length c.args.rows.now c.args.raws.now c.loop-raw.handlers.items c.loop-raw.least c.loop-raw.raw-index (record { start = 0; end = 0; target = 0; catch = 0 }) c.loop-raw-test.true c.loop-raw.invariant
      (bad_means (IsHandler c.args.pool.now c.args.length c.args.rows.now raw) w.in-Err-Bad.field-0 w.in-Err-Bad.field-0-is w.in-Err-Bad.ensures))
]
