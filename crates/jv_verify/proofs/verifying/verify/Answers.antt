use Rattle.jv_verify.proofs.verifying.verify.Goals as goal

pub verify_body-requires-clause-has : goal.verify_body-requires-clause-has
verify_body-requires-clause-has c = rw c.in_ok-whole.ensures c.requires.has

pub returns-clause-verified : goal.returns-clause-verified
returns-clause-verified c = rw c.in_ok-whole.ensures at c.verify_body.ensures.verified

pub returns-clause-refused : goal.returns-clause-refused
returns-clause-refused c = rw c.in_ok-whole.ensures at c.verify_body.ensures.refused
