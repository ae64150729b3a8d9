use Rattle.jv_verify_refs.proofs.fields.put_own.Goals as goal

pub returns-clause-rule : goal.returns-clause-rule
returns-clause-rule c = λ is after h.
    let none = rw c.in_ok-desc_vtype.ensures at (c.goes.ensures.rule is) in
    none after h.goes
