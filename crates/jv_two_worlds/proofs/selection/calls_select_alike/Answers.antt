use Rattle.jv_two_worlds.proofs.Finding.{agree}
use Rattle.jv_two_worlds.proofs.Selecting.{virtual_alike, interface_alike, special_alike}
use Rattle.jv_two_worlds.proofs.selection.calls_select_alike.Goals as goal

pub returns-clause-by_virtual : goal.returns-clause-by_virtual
returns-clause-by_virtual _ = λ w v to c resolved inside here there. agree (virtual_alike inside c resolved here there)

pub returns-clause-by_interface : goal.returns-clause-by_interface
returns-clause-by_interface _ = λ w v to c resolved inside here there. agree (interface_alike inside c resolved here there)

pub returns-clause-by_special : goal.returns-clause-by_special
returns-clause-by_special _ = λ w v to from c r resolved inside here there begins. agree (special_alike inside resolved there from c r here begins)
