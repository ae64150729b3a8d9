use Rattle.jv_two_worlds.proofs.Resolving.{field_agrees, field_cause_agrees}
use Rattle.jv_two_worlds.proofs.resolution.fields_resolve_alike.Goals as goal

pub returns-clause-found : goal.returns-clause-found
returns-clause-found _ = λ w v to c r inside named. field_agrees inside r c named

pub returns-clause-cause : goal.returns-clause-cause
returns-clause-cause _ = λ w v to c r why inside named. field_cause_agrees inside r c why named
