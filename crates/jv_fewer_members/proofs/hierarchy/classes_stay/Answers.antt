use Rattle.jv_fewer_members.proofs.Heads.{heads_into, heads_back, named, interface_class}
use Rattle.jv_fewer_members.proofs.hierarchy.classes_stay.Goals as goal

pub returns-clause-name : goal.returns-clause-name
returns-clause-name _ = λ w v at c name fewer. (λ p. named (heads_into fewer) c name p, λ q. named (heads_back fewer) c name q)

pub returns-clause-kind : goal.returns-clause-kind
returns-clause-kind _ = λ w v at c fewer. (λ p. interface_class (heads_into fewer) c p, λ q. interface_class (heads_back fewer) c q)
