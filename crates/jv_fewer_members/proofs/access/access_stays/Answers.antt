use Rattle.jv_fewer_members.proofs.Accesses.{field_access, method_access}
use Rattle.jv_fewer_members.proofs.Heads.{heads_into, heads_back, class_access, one_package}
use Rattle.jv_fewer_members.proofs.access.access_stays.Goals as goal

pub returns-clause-package : goal.returns-clause-package
returns-clause-package _ = λ w v at c d fewer. (λ p. one_package (heads_into fewer) c d p, λ q. one_package (heads_back fewer) c d q)

pub returns-clause-class : goal.returns-clause-class
returns-clause-class _ = λ w v at from c fewer. (λ p. class_access (heads_into fewer) from c p, λ q. class_access (heads_back fewer) from c q)

pub returns-clause-field : goal.returns-clause-field
returns-clause-field _ = λ w v at from r f fewer has. field_access fewer from r f has

pub returns-clause-method : goal.returns-clause-method
returns-clause-method _ = λ w v at from r m fewer has. method_access fewer from r m has
