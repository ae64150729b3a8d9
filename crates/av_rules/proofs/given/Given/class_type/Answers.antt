use Rattle.av_rules.proofs.given.Given.class_type.Goals as goal

pub returns-in-None-clause-none : goal.returns-in-None-clause-none
returns-in-None-clause-none c = λ made x. c.in-None.ensures.none x.0 x.1
