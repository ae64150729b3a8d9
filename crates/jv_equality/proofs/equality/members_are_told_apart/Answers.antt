use Rattle.jv_equality.proofs.ToldApart.{field_ref_told, field_ref_ties, method_ref_told, method_ref_ties, field_shape_told, field_shape_ties, method_shape_told, method_shape_ties, shape_told, shape_ties}
use Rattle.jv_equality.proofs.equality.members_are_told_apart.Goals as goal

pub returns-clause-field_ref : goal.returns-clause-field_ref
returns-clause-field_ref c = field_ref_told

pub returns-clause-field_ref_order : goal.returns-clause-field_ref_order
returns-clause-field_ref_order c = field_ref_ties

pub returns-clause-method_ref : goal.returns-clause-method_ref
returns-clause-method_ref c = method_ref_told

pub returns-clause-method_ref_order : goal.returns-clause-method_ref_order
returns-clause-method_ref_order c = method_ref_ties

pub returns-clause-field_shape : goal.returns-clause-field_shape
returns-clause-field_shape c = field_shape_told

pub returns-clause-field_shape_order : goal.returns-clause-field_shape_order
returns-clause-field_shape_order c = field_shape_ties

pub returns-clause-method_shape : goal.returns-clause-method_shape
returns-clause-method_shape c = method_shape_told

pub returns-clause-method_shape_order : goal.returns-clause-method_shape_order
returns-clause-method_shape_order c = method_shape_ties

pub returns-clause-shape : goal.returns-clause-shape
returns-clause-shape c = shape_told

pub returns-clause-shape_order : goal.returns-clause-shape_order
returns-clause-shape_order c = shape_ties
