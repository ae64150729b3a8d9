use Rattle.jv_verify.proofs.Verified.{is_type_safe, is_kind_safe}
use Rattle.jv_verify.proofs.laws.verified_methods_are_kind_safe.Goals as goal

pub returns-clause-typed : goal.returns-clause-typed
returns-clause-typed c = is_type_safe

pub returns-clause-kinds : goal.returns-clause-kinds
returns-clause-kinds c = is_kind_safe
