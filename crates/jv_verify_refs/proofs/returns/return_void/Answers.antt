use Rattle.jv_verify_refs.proofs.returns.return_void.Goals as goal

pub returns-clause-rule : goal.returns-clause-rule
returns-clause-rule c = λ is after h. c.goes.ensures.rule is after h.goes
