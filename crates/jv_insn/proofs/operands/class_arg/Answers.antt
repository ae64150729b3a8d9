-- A type that doesn't fit is the only one there.
use Rattle.jv_table.specs.declared.code_tables.Form.TheVariants as forms
use Rattle.jv_names.specs.Naming.{NamesType}
use Rattle.jv_insn.specs.Meanings.{NamesArg}
use Rattle.jv_insn.proofs.Refusing.{class_refused, refuted}
use Rattle.jv_names.proofs.Refused.{none_for}
use Rattle.jv_insn.proofs.operands.class_arg.Goals as goal

pub returns-else-fits_op : goal.returns-else-fits_op
returns-else-fits_op c = class_refused c.args.pool.now c.args.op c.args.index c.in-Ok.of c.in-Ok.ensures (refuted c.fits_op.result c.fits_op.ensures c.if-fits_op.false)

pub returns-in-Err : goal.returns-in-Err
returns-in-Err c = none_for (NamesType c.args.pool.now c.args.index) (NamesArg forms.Class c.args.pool.now c.args.op c.args.index) c.in-Err.e (λ arg h. (h.0, h.2)) c.in-Err.ensures
