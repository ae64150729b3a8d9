use Rattle.jv_verify_refs.proofs.checks.throw.Goals as goal

pub returns-clause-rule : goal.returns-clause-rule
returns-clause-rule c = rw c.in_ok-throwable_type.ensures at c.goes.ensures.rule
