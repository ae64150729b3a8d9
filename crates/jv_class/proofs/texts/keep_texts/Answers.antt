use Rattle.jv_class.specs.Steps.Kinds.{IsKeptOf}
use Rattle.jv_class.proofs.texts.keep_texts.Goals as goal
use Rattle.jv_lists.proofs.Zips.{zip_more_of}

pub loop-item-preserved : goal.loop-item-preserved
loop-item-preserved c =
    rw c.in_ok-push.ensures.items (zip_more_of IsKeptOf c.items-item-items.result.now c.loop-item.kept.items c.loop-item.item-index c.item-item.result c.in_ok-kinds.kinds c.loop-item-test.true c.item-item.is c.loop-item.invariant c.in_ok-kinds.ensures)
