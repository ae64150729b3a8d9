-- A type of too few dimensions is the only one there.
use Rattle.jv_names.specs.Naming.{NamesType}
use Rattle.jv_insn.specs.Meanings.{NamesMulti}
use Rattle.jv_insn.proofs.Refusing.{multi_refused, refuted}
use Rattle.jv_names.proofs.Refused.{none_for}
use Rattle.jv_insn.proofs.operands.multi_arg.Goals as goal

pub returns-else-has_dims : goal.returns-else-has_dims
returns-else-has_dims c = multi_refused c.args.pool.now c.args.index c.args.dims c.in-Ok.of c.in-Ok.ensures (refuted c.has_dims.result c.has_dims.ensures c.if-has_dims.false)

pub returns-in-Err : goal.returns-in-Err
returns-in-Err c = none_for (NamesType c.args.pool.now c.args.index) (NamesMulti c.args.pool.now c.args.index c.args.dims) c.in-Err.e (λ arg h. (h.0, h.2)) c.in-Err.ensures
