use Rattle.jv_verify.proofs.Verified.{one_verified, never_refused, one_refusal}
use Rattle.jv_verify.proofs.laws.methods_have_one_answer.Goals as goal

pub returns-clause-table : goal.returns-clause-table
returns-clause-table c = one_verified

pub returns-clause-apart : goal.returns-clause-apart
returns-clause-apart c = never_refused

pub returns-clause-refusal : goal.returns-clause-refusal
returns-clause-refusal c = one_refusal
