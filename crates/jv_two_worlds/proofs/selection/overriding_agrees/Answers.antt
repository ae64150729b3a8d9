use Rattle.jv_two_worlds.proofs.Overriding.{direct_into, direct_back, overrides_into, overrides_back, overrides_exact}
use Rattle.jv_two_worlds.proofs.selection.overriding_agrees.Goals as goal

pub returns-clause-direct : goal.returns-clause-direct
returns-clause-direct _ = λ w v to m inside here. record { into = λ n p. direct_into inside m n p; back = λ n q. direct_back inside m n here q }

pub returns-clause-overridden : goal.returns-clause-overridden
returns-clause-overridden _ = λ w v to m inside here. record { into = λ n p. overrides_into inside m n p; back = λ n q. overrides_back inside m n here q }

pub returns-clause-both : goal.returns-clause-both
returns-clause-both _ = λ w v to m n inside here there. (λ p. overrides_into inside m n p, λ q. overrides_exact inside m n here there q)
