use Rattle.jv_equality.proofs.ToldApart.{rule_told, rule_ties, rule_place_told, rule_place_ties, refusal_told, refusal_ties, quantity_told, quantity_ties}
use Rattle.jv_equality.proofs.equality.refusals_are_told_apart.Goals as goal

pub returns-clause-rule : goal.returns-clause-rule
returns-clause-rule c = rule_told

pub returns-clause-rule_order : goal.returns-clause-rule_order
returns-clause-rule_order c = rule_ties

pub returns-clause-rule_place : goal.returns-clause-rule_place
returns-clause-rule_place c = rule_place_told

pub returns-clause-rule_place_order : goal.returns-clause-rule_place_order
returns-clause-rule_place_order c = rule_place_ties

pub returns-clause-refusal : goal.returns-clause-refusal
returns-clause-refusal c = refusal_told

pub returns-clause-refusal_order : goal.returns-clause-refusal_order
returns-clause-refusal_order c = refusal_ties

pub returns-clause-quantity : goal.returns-clause-quantity
returns-clause-quantity c = quantity_told

pub returns-clause-quantity_order : goal.returns-clause-quantity_order
returns-clause-quantity_order c = quantity_ties
