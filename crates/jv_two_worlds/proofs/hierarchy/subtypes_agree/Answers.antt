use Rattle.jv_two_worlds.proofs.Supertypes.{sub_into, sub_back, sub_exact, proper_into, proper_back}
use Rattle.jv_two_worlds.proofs.hierarchy.subtypes_agree.Goals as goal

pub returns-clause-above : goal.returns-clause-above
returns-clause-above _ = λ w v to c inside here. record { into = λ d p. sub_into inside c d p; back = λ e p. sub_back inside c e here p }

pub returns-clause-properly_above : goal.returns-clause-properly_above
returns-clause-properly_above _ = λ w v to c inside here. record { into = λ d p. proper_into inside c d p; back = λ e p. proper_back inside c e here p }

pub returns-clause-both : goal.returns-clause-both
returns-clause-both _ = λ w v to c d inside here there. (λ p. sub_into inside c d p, λ p. sub_exact inside c d here there p)
