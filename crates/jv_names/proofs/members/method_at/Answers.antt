-- A method's class is that of its item.
use Rattle.std.proofs.Common.{sym}
use Rattle.std.proofs.lemmas.Result.{err_from_is_err_and}
use Rattle.jv_names.specs.Naming.{NamesType, NamesMethod}
use Rattle.jv_names.proofs.NamedOnce.{method_class}
use Rattle.jv_names.proofs.Refused.{none_for}
use Rattle.jv_names.proofs.members.method_at.Goals as goal

pub returns-in_err-class : goal.returns-in_err-class
returns-in_err-class c =
    let p = err_from_is_err_and c.from_residual.result c.from_residual.ensures.1 in
    rw (p.1, p.2) (none_for (NamesType c.args.pool.now c.in-Some.class) (NamesMethod c.args.pool.now c.args.index) c.in_err-class.field-0.0
    (λ m h. (m.class, method_class c.args.pool.now c.args.index c.in-Some.interface c.in-Some.class c.in-Some.pair m (sym c.in-Some.ensures) h)) c.in_err-class.ensures)
