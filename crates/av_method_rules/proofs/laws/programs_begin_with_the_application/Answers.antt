use Rattle.av_method_rules.proofs.Worlds.{begins, begins_with}
use Rattle.av_method_rules.proofs.laws.programs_begin_with_the_application.Goals as goal

pub returns-clause-given : goal.returns-clause-given
returns-clause-given c = begins

pub returns-clause-application : goal.returns-clause-application
returns-clause-application c = begins_with
