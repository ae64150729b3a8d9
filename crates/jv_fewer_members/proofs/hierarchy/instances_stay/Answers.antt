use Rattle.jv_fewer_members.proofs.Heads.{heads_into, heads_back, sub_named, interface_named, instance, in_dims}
use Rattle.jv_fewer_members.proofs.hierarchy.instances_stay.Goals as goal

pub returns-clause-by_name : goal.returns-clause-by_name
returns-clause-by_name _ = λ w v at name of fewer. (λ p. sub_named (heads_into fewer) name of p, λ q. sub_named (heads_back fewer) name of q)

pub returns-clause-interface : goal.returns-clause-interface
returns-clause-interface _ = λ w v at name fewer. (λ p. interface_named (heads_into fewer) name p, λ q. interface_named (heads_back fewer) name q)

pub returns-clause-by_type : goal.returns-clause-by_type
returns-clause-by_type _ = λ w v at type of fewer. (λ p. instance (heads_into fewer) type of p, λ q. instance (heads_back fewer) type of q)

pub returns-clause-by_number : goal.returns-clause-by_number
returns-clause-by_number _ = λ w v at base dims of of_dims fewer. (λ p. in_dims (heads_into fewer) base dims of of_dims p, λ q. in_dims (heads_back fewer) base dims of of_dims q)
