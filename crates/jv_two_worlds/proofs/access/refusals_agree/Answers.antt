use Rattle.jv_two_worlds.proofs.Accessing.{field_refusal, method_refusal, interface_method_refusal}
use Rattle.jv_two_worlds.proofs.access.refusals_agree.Goals as goal

pub returns-clause-field : goal.returns-clause-field
returns-clause-field _ = λ w v to from c r why inside here named. field_refusal inside from c r why here named

pub returns-clause-method : goal.returns-clause-method
returns-clause-method _ = λ w v to from c r why inside here begins. method_refusal inside from c r why here begins

pub returns-clause-interface_method : goal.returns-clause-interface_method
returns-clause-interface_method _ = λ w v to from c r why inside here begins. interface_method_refusal inside from c r why here begins
