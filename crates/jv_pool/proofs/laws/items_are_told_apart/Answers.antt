-- By the lemmas on items.
use Rattle.jv_pool.proofs.ItemsTold.{items_told, items_tied}
use Rattle.jv_pool.proofs.laws.items_are_told_apart.Goals as goal

pub returns-clause-item : goal.returns-clause-item
returns-clause-item c = items_told

pub returns-clause-item_order : goal.returns-clause-item_order
returns-clause-item_order c = items_tied
