use Rattle.jv_equality.proofs.ToldApart.{class_id_told, class_id_ties, field_id_told, field_id_ties, method_id_told, method_id_ties, lib_base_told, lib_base_ties, label_told, label_ties, place_told, place_ties, call_from_told, call_from_ties, fact_told, fact_ties}
use Rattle.jv_equality.proofs.equality.facts_are_told_apart.Goals as goal

pub returns-clause-class_id : goal.returns-clause-class_id
returns-clause-class_id c = class_id_told

pub returns-clause-class_id_order : goal.returns-clause-class_id_order
returns-clause-class_id_order c = class_id_ties

pub returns-clause-field_id : goal.returns-clause-field_id
returns-clause-field_id c = field_id_told

pub returns-clause-field_id_order : goal.returns-clause-field_id_order
returns-clause-field_id_order c = field_id_ties

pub returns-clause-method_id : goal.returns-clause-method_id
returns-clause-method_id c = method_id_told

pub returns-clause-method_id_order : goal.returns-clause-method_id_order
returns-clause-method_id_order c = method_id_ties

pub returns-clause-lib_base : goal.returns-clause-lib_base
returns-clause-lib_base c = lib_base_told

pub returns-clause-lib_base_order : goal.returns-clause-lib_base_order
returns-clause-lib_base_order c = lib_base_ties

pub returns-clause-label : goal.returns-clause-label
returns-clause-label c = label_told

pub returns-clause-label_order : goal.returns-clause-label_order
returns-clause-label_order c = label_ties

pub returns-clause-place : goal.returns-clause-place
returns-clause-place c = place_told

pub returns-clause-place_order : goal.returns-clause-place_order
returns-clause-place_order c = place_ties

pub returns-clause-call_from : goal.returns-clause-call_from
returns-clause-call_from c = call_from_told

pub returns-clause-call_from_order : goal.returns-clause-call_from_order
returns-clause-call_from_order c = call_from_ties

pub returns-clause-fact : goal.returns-clause-fact
returns-clause-fact c = fact_told

pub returns-clause-fact_order : goal.returns-clause-fact_order
returns-clause-fact_order c = fact_ties
