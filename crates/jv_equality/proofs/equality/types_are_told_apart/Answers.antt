use Rattle.jv_equality.proofs.Exact.{text_ties}
use Rattle.jv_equality.proofs.ToldApart.{access_told, access_ties, prim_told, prim_ties, ref_type_told, ref_type_ties, desc_told, desc_ties, method_desc_told, method_desc_ties}
use Rattle.jv_equality.proofs.equality.types_are_told_apart.Goals as goal

pub returns-clause-name_order : goal.returns-clause-name_order
returns-clause-name_order c = text_ties

pub returns-clause-access : goal.returns-clause-access
returns-clause-access c = access_told

pub returns-clause-access_order : goal.returns-clause-access_order
returns-clause-access_order c = access_ties

pub returns-clause-prim : goal.returns-clause-prim
returns-clause-prim c = prim_told

pub returns-clause-prim_order : goal.returns-clause-prim_order
returns-clause-prim_order c = prim_ties

pub returns-clause-ref_type : goal.returns-clause-ref_type
returns-clause-ref_type c = ref_type_told

pub returns-clause-ref_type_order : goal.returns-clause-ref_type_order
returns-clause-ref_type_order c = ref_type_ties

pub returns-clause-desc : goal.returns-clause-desc
returns-clause-desc c = desc_told

pub returns-clause-desc_order : goal.returns-clause-desc_order
returns-clause-desc_order c = desc_ties

pub returns-clause-method_desc : goal.returns-clause-method_desc
returns-clause-method_desc c = method_desc_told

pub returns-clause-method_desc_order : goal.returns-clause-method_desc_order
returns-clause-method_desc_order c = method_desc_ties
