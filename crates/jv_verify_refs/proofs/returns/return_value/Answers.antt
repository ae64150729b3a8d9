use Rattle.jv_verify_refs.proofs.Returning.{no_return}
use Rattle.jv_verify_refs.proofs.returns.return_value.Goals as goal

pub returns-in_ok-desc_vtype-in-Some-clause-rule : goal.returns-in_ok-desc_vtype-in-Some-clause-rule
returns-in_ok-desc_vtype-in-Some-clause-rule c = λ is.
    no_return c.args.step.now c.method_shape-shape.result.now c.in-Some.of c.method_shape-shape.ensures c.in-Some.is (rw c.in_ok-desc_vtype-in-Some.ensures at (c.goes.ensures.rule is))
