use Rattle.jv_two_worlds.proofs.Finding.{agree}
use Rattle.jv_two_worlds.proofs.Resolving.{interface_method_alike, interface_method_cause_agrees}
use Rattle.jv_two_worlds.proofs.resolution.interface_methods_resolve_alike.Goals as goal

pub returns-clause-found : goal.returns-clause-found
returns-clause-found _ = λ w v to c r inside begins. agree (interface_method_alike inside r c begins)

pub returns-clause-cause : goal.returns-clause-cause
returns-clause-cause _ = λ w v to c r why inside begins. interface_method_cause_agrees inside r c why begins
