-- A method that may be called is named.
use Rattle.std.proofs.Common.{refl}
use Rattle.jv_table.specs.declared.code_tables.Form.TheVariants as forms
use Rattle.jv_names.specs.Naming.{NamesMethod}
use Rattle.jv_insn.specs.Meanings.{NamesArg}
use Rattle.jv_names.proofs.Refused.{none_for}
use Rattle.jv_insn.proofs.operands.method_arg.Goals as goal

pub returns-then-may_call : goal.returns-then-may_call
returns-then-may_call c = (c.in-Ok.method, refl, c.in-Ok.ensures, c.may_call.ensures.0 c.if-may_call.true)

pub returns-in-Err : goal.returns-in-Err
returns-in-Err c = none_for (NamesMethod c.args.pool.now c.args.index) (NamesArg forms.Method c.args.pool.now c.args.op c.args.index) c.in-Err.e (λ arg h. (h.0, h.2)) c.in-Err.ensures
