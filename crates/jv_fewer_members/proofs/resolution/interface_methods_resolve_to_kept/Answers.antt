use Rattle.jv_fewer_members.proofs.ResolvesMethods.{interface_agrees, interface_cause_agrees}
use Rattle.jv_fewer_members.proofs.resolution.interface_methods_resolve_to_kept.Goals as goal

pub returns-clause-found : goal.returns-clause-found
returns-clause-found _ = λ w v at r fewer keeps kept class_init. interface_agrees fewer keeps r kept class_init

pub returns-clause-cause : goal.returns-clause-cause
returns-clause-cause _ = λ w v at r why fewer keeps kept class_init. interface_cause_agrees fewer keeps r why kept class_init
