use Rattle.jv_verify_refs.proofs.arrays.store_ref.Goals as goal

pub returns-clause-rule : goal.returns-clause-rule
returns-clause-rule c = rw (c.in_ok-new.ensures, c.in_ok-object_type.ensures, c.in_ok-object_type-2.ensures) at c.goes.ensures.rule
