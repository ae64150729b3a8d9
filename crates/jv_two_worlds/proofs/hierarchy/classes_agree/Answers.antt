use Rattle.jv_two_worlds.proofs.Classes.{one_number, named_into, named_back, interface_into, interface_back}
use Rattle.jv_two_worlds.proofs.hierarchy.classes_agree.Goals as goal

pub returns-clause-apart : goal.returns-clause-apart
returns-clause-apart _ = λ w v to c d inside here there e. one_number inside c d here there e

pub returns-clause-name : goal.returns-clause-name
returns-clause-name _ = λ w v to c name inside here. (λ p. named_into inside c name p, λ p. named_back inside c name here p)

pub returns-clause-kind : goal.returns-clause-kind
returns-clause-kind _ = λ w v to c inside here. (λ p. interface_into inside c p, λ p. interface_back inside c here p)
