use Rattle.jv_two_worlds.proofs.Accessing.{class_access, field_access, method_access}
use Rattle.jv_two_worlds.proofs.access.access_agrees.Goals as goal

pub returns-clause-class : goal.returns-clause-class
returns-clause-class _ = λ w v to from c inside here there. class_access inside from c here there

pub returns-clause-field : goal.returns-clause-field
returns-clause-field _ = λ w v to from c r f inside here there named. field_access inside from c r f here there named

pub returns-clause-method : goal.returns-clause-method
returns-clause-method _ = λ w v to from c r m inside here there begins. method_access inside from c r m here there begins
