use Rattle.jv_resolve.proofs.OneAnswer.{one_field, one_resolved, one_resolved_interface}
use Rattle.jv_resolve.proofs.laws.references_resolve_to_one.Goals as goal

pub returns-clause-field : goal.returns-clause-field
returns-clause-field c = one_field

pub returns-clause-method : goal.returns-clause-method
returns-clause-method c = one_resolved

pub returns-clause-interface_method : goal.returns-clause-interface_method
returns-clause-interface_method c = one_resolved_interface
