-- A local variable that is too high.
use Rattle.std.proofs.Common.{sym}
use Rattle.jv_table.specs.CodeRows.{op_form}
use Rattle.jv_insn.proofs.Refusing.{local_refused, refuted}
use Rattle.jv_insn.proofs.insns.insn_of.Goals as goal

pub returns-else-fits_locals : goal.returns-else-fits_locals
returns-else-fits_locals c = local_refused c.args.pool.now c.args.max_locals c.args.rows.now c.args.pc c.args.written.now (op_form c.in-Some.row.now) c.in-Ok.arg (sym c.in-Some.ensures) c.in-Ok.ensures (refuted c.fits_locals.result c.fits_locals.ensures c.if-fits_locals.false)
