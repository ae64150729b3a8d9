use Rattle.jv_fewer_members.proofs.Resolves.{field_agrees, field_cause_agrees}
use Rattle.jv_fewer_members.proofs.resolution.fields_resolve_to_kept.Goals as goal

pub returns-clause-found : goal.returns-clause-found
returns-clause-found _ = λ w v at r fewer alike keeps. field_agrees fewer alike r keeps

pub returns-clause-cause : goal.returns-clause-cause
returns-clause-cause _ = λ w v at r why fewer alike keeps. field_cause_agrees fewer alike r why keeps
