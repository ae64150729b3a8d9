-- Each turn of the loop is one instruction.
use Rattle.std.proofs.Common.{◌-◌, length, ap, subst, arith}
use Rattle.jv_read.specs.Reading.{Fails}
use Rattle.jv_insn.specs.Steps.Reading.{written_at}
use Rattle.jv_insn.proofs.Laying.{laid_goes_on, laid_breaks, laid_done, read_shorter}
use Rattle.jv_insn.proofs.layout.lay.Goals as goal

pub loop-cursor-smaller : goal.loop-cursor-smaller
loop-cursor-smaller c = read_shorter (length c.args.code.now - c.left-in-loop-cursor.result) c.loop-cursor.cursor c.in-Ok.written c.read_insn.new.cursor c.in-Ok.ensures

pub loop-cursor-preserved : goal.loop-cursor-preserved
loop-cursor-preserved c =
    rw c.in_ok-push-in-Ok.ensures.items (laid_goes_on c.args.code.now c.loop-cursor.rows.items c.loop-cursor.cursor c.read_insn.new.cursor (length c.args.code.now - c.left-in-loop-cursor.result) c.in-Ok.written (ap (λ n. length c.args.code.now - n) c.left-in-loop-cursor.ensures) c.in-Ok.ensures c.loop-cursor.invariant)

pub returns-in-Err-Bad : goal.returns-in-Err-Bad
returns-in-Err-Bad c =
    laid_breaks c.args.code.now c.loop-cursor.rows.items c.loop-cursor.cursor (length c.args.code.now - c.left-in-loop-cursor.result) (omega (arith, c.loop-cursor-test.true, c.left.ensures)) (ap (λ n. length c.args.code.now - n) c.left-in-loop-cursor.ensures)
    (subst (λ fault. Fails fault (written_at (length c.args.code.now - c.left-in-loop-cursor.result) c.loop-cursor.cursor)) c.in-Err-Bad.field-0-is c.in-Err-Bad.ensures) c.loop-cursor.invariant

pub returns : goal.returns
returns c = laid_done c.args.code.now c.loop-cursor.rows.items c.loop-cursor.cursor (omega (arith, c.loop-cursor-test.false, c.left.ensures)) c.loop-cursor.invariant
