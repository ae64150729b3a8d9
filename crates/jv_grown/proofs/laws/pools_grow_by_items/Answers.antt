use Rattle.jv_grown.proofs.Forms.{form_kept}
use Rattle.jv_grown.proofs.Places.{once_kept, none_once}
use Rattle.jv_grown.proofs.laws.pools_grow_by_items.Goals as goal

pub returns-clause-form : goal.returns-clause-form
returns-clause-form c = form_kept

pub returns-clause-once : goal.returns-clause-once
returns-clause-once c = once_kept

pub returns-clause-none : goal.returns-clause-none
returns-clause-none c = none_once
