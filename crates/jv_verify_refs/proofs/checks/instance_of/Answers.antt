use Rattle.jv_verify_refs.proofs.checks.instance_of.Goals as goal

pub returns-clause-rule : goal.returns-clause-rule
returns-clause-rule c = λ is after h.
    let s = c.args.step.now in
    let none = rw c.in_ok-object_type.ensures at (c.goes.ensures.rule is) in
    none after h.2
