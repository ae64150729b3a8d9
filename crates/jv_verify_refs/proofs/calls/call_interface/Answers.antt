use Rattle.jv_verify_refs.proofs.calls.call_interface.Goals as goal

pub returns-then-is_plain-clause-rule : goal.returns-then-is_plain-clause-rule
returns-then-is_plain-clause-rule c = λ is after h. c.call_on_class.ensures.rule is after h.1
