use Rattle.jv_fewer_members.proofs.Selects.{virtual_agrees, interface_agrees}
use Rattle.jv_fewer_members.proofs.SelectsSpecially.{special_calls_agree}
use Rattle.jv_fewer_members.proofs.selection.calls_select_kept.Goals as goal

pub returns-clause-by_virtual : goal.returns-clause-by_virtual
returns-clause-by_virtual _ = λ w v at c resolved fewer keeps is up. virtual_agrees fewer keeps c resolved is up

pub returns-clause-by_interface : goal.returns-clause-by_interface
returns-clause-by_interface _ = λ w v at c resolved fewer keeps is up. interface_agrees fewer keeps c resolved is up

pub returns-clause-by_special : goal.returns-clause-by_special
returns-clause-by_special _ = λ w v at from r resolved fewer keeps is resolves. special_calls_agree fewer keeps resolved is r resolves from
