use Rattle.jv_verify_refs.proofs.checks.take_refs.Goals as goal

pub returns-clause-typed : goal.returns-clause-typed
returns-clause-typed c = rw (c.as_slice-2.ensures.value, c.in_ok-wanted.ensures, c.as_slice.ensures.value, c.in_ok-cells.ensures) at c.goes.ensures.typed

pub returns-clause-rule : goal.returns-clause-rule
returns-clause-rule c = rw (c.as_slice-2.ensures.value, c.in_ok-wanted.ensures, c.as_slice.ensures.value, c.in_ok-cells.ensures) at c.goes.ensures.rule
