use Rattle.jv_verify_refs.proofs.arrays.load_item.Goals as goal

pub returns-clause-rule : goal.returns-clause-rule
returns-clause-rule c = rw c.prim_type.ensures at c.goes.ensures.rule
