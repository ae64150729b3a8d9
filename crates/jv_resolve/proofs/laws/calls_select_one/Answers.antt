use Rattle.jv_resolve.proofs.OneAnswer.{one_virtual, one_interface, one_special}
use Rattle.jv_resolve.proofs.laws.calls_select_one.Goals as goal

pub returns-clause-by_virtual : goal.returns-clause-by_virtual
returns-clause-by_virtual c = one_virtual

pub returns-clause-by_interface : goal.returns-clause-by_interface
returns-clause-by_interface c = one_interface

pub returns-clause-by_special : goal.returns-clause-by_special
returns-clause-by_special c = one_special
