use Rattle.jv_two_worlds.proofs.Supertypes.{superclass_into, superclass_back, subclass_into, subclass_back, subclass_exact}
use Rattle.jv_two_worlds.proofs.hierarchy.superclasses_agree.Goals as goal

pub returns-clause-direct : goal.returns-clause-direct
returns-clause-direct _ = λ w v to c inside here. record { into = λ d p. superclass_into inside c d p; back = λ e p. superclass_back inside c e here p }

pub returns-clause-above : goal.returns-clause-above
returns-clause-above _ = λ w v to c inside here. record { into = λ d p. subclass_into inside c d p; back = λ e p. subclass_back inside c e here p }

pub returns-clause-both : goal.returns-clause-both
returns-clause-both _ = λ w v to c d inside here there. (λ p. subclass_into inside c d p, λ p. subclass_exact inside c d here there p)
