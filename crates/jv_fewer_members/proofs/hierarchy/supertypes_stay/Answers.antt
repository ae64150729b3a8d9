use Rattle.jv_fewer_members.proofs.Heads.{heads_into, heads_back, sub, proper, superclass, subclass}
use Rattle.jv_fewer_members.proofs.hierarchy.supertypes_stay.Goals as goal

pub returns-clause-above : goal.returns-clause-above
returns-clause-above _ = λ w v at c d fewer. (λ p. sub (heads_into fewer) c d p, λ q. sub (heads_back fewer) c d q)

pub returns-clause-properly_above : goal.returns-clause-properly_above
returns-clause-properly_above _ = λ w v at c d fewer. (λ p. proper (heads_into fewer) c d p, λ q. proper (heads_back fewer) c d q)

pub returns-clause-direct_superclass : goal.returns-clause-direct_superclass
returns-clause-direct_superclass _ = λ w v at c d fewer. (λ p. superclass (heads_into fewer) c d p, λ q. superclass (heads_back fewer) c d q)

pub returns-clause-superclass : goal.returns-clause-superclass
returns-clause-superclass _ = λ w v at c d fewer. (λ p. subclass (heads_into fewer) c d p, λ q. subclass (heads_back fewer) c d q)
