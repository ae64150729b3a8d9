-- What an invokeinterface names is one method.
use Rattle.std.proofs.Common.{refl}
use Rattle.jv_names.specs.Naming.{NamesMethod}
use Rattle.jv_insn.specs.Meanings.{NamesCalled}
use Rattle.jv_insn.proofs.Refusing.{called_refused, refuted}
use Rattle.jv_names.proofs.Refused.{none_for}
use Rattle.jv_insn.proofs.operands.called_arg.Goals as goal

pub returns-then-is_called : goal.returns-then-is_called
returns-then-is_called c = (c.in-Ok.method, refl, c.in-Ok.ensures, c.is_called.ensures.0 c.if-is_called.true)

pub returns-else-is_called : goal.returns-else-is_called
returns-else-is_called c = called_refused c.args.pool.now c.args.index c.args.words c.args.last c.in-Ok.method c.in-Ok.ensures (refuted c.is_called.result c.is_called.ensures c.if-is_called.false)

pub returns-in-Err : goal.returns-in-Err
returns-in-Err c = none_for (NamesMethod c.args.pool.now c.args.index) (NamesCalled c.args.pool.now c.args.index c.args.words c.args.last) c.in-Err.e (λ arg h. (h.0, h.2)) c.in-Err.ensures
