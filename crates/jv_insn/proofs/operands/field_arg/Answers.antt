-- What isn't found is found nowhere.
use Rattle.jv_table.specs.declared.code_tables.Form.TheVariants as forms
use Rattle.jv_names.specs.Naming.{NamesField}
use Rattle.jv_insn.specs.Meanings.{NamesArg}
use Rattle.jv_names.proofs.Refused.{none_for}
use Rattle.jv_insn.proofs.operands.field_arg.Goals as goal

pub returns-in-Err : goal.returns-in-Err
returns-in-Err c = none_for (NamesField c.args.pool.now c.args.index) (NamesArg forms.Field c.args.pool.now c.args.op c.args.index) c.in-Err.e (λ arg h. (h.0, h.2)) c.in-Err.ensures
