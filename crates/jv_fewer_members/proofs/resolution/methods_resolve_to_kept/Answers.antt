use Rattle.jv_fewer_members.proofs.ResolvesMethods.{method_agrees, method_cause_agrees}
use Rattle.jv_fewer_members.proofs.resolution.methods_resolve_to_kept.Goals as goal

pub returns-clause-found : goal.returns-clause-found
returns-clause-found _ = λ w v at r fewer keeps kept class_init. method_agrees fewer keeps r kept class_init

pub returns-clause-cause : goal.returns-clause-cause
returns-clause-cause _ = λ w v at r why fewer keeps kept class_init. method_cause_agrees fewer keeps r why kept class_init
