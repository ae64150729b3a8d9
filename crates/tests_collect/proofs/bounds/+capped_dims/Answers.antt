-- An array has one dimension more than its items.
use Rattle.jv_desc.specs.Texts.{ref_dims}
use Rattle.av_dims.proofs.Most.{dims_of_array}
use Rattle.tests_collect.proofs.BoundLemmas.{capped_more}
use Rattle.tests_collect.proofs.bounds.+capped_dims.Goals as goal

pub returns-in-Array : goal.returns-in-Array
returns-in-Array t c =
    capped_more (ref_dims c.args.of.now) (ref_dims c.get.result.now) c.capped_dims.result c.saturating_add.result (dims_of_array c.args.of.now c.in-Array.item c.get.result.now c.in-Array.is c.get.ensures)
    c.capped_dims.ensures c.saturating_add.ensures
