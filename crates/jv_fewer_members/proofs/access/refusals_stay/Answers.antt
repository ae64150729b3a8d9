use Rattle.jv_fewer_members.proofs.Accesses.{field_refused, interface_refused, method_refused}
use Rattle.jv_fewer_members.proofs.access.refusals_stay.Goals as goal

pub returns-clause-field : goal.returns-clause-field
returns-clause-field _ = λ w v at from r why fewer alike kept. field_refused fewer alike from r why kept

pub returns-clause-method : goal.returns-clause-method
returns-clause-method _ = λ w v at from r why fewer keeps kept init. method_refused fewer keeps from r why kept init

pub returns-clause-interface_method : goal.returns-clause-interface_method
returns-clause-interface_method _ = λ w v at from r why fewer keeps kept init. interface_refused fewer keeps from r why kept init
